use mathlib.Core.Path.{◌≡◌, sym, ap, ◌∙◌}
use Prim.Native.Nat.{ℕ, ◌+◌}
use mathlib.Core.List.{◌++◌}
use lib.ListN.{length, drop}
use native.Mathlib.Omega.{arith}
use borrow.Author.Rules.{rules}
use Rattle.core_write.proofs.Puts.{splice_cut}
use Rattle.exports_answers.specs.Answers.{returned}
use Rattle.exports_parts.proofs.counts.put.Goals as goal

pub returns : goal.returns
returns c =
    let four : length c.args.counts ≡ 4 = search rules in
    let end : 0 + length c.args.counts ≡ 4 = omega (arith, four) in
    rw c.copy_from_slice.ensures.after (ap (returned 10) (sym (splice_cut c.args.out.now 0 c.args.counts (omega (arith, four, c.requires)) ∙ ap (λ (k : ℕ). c.args.counts ++ drop k c.args.out.now) end)))
