use mathlib.Core.Path.{◌≡◌, refl, ◌∙◌}
use mathlib.Core.List.{append-nil}
use Prim.Native.Nat.{ℕ}
use native.Mathlib.Numerals.{add-one}
use native.Mathlib.Omega.{arith}
use lib.ListN.{length}
use lib.Seq.{take_all}
use Rattle.std.proofs.lemmas.List.{drop_all}
use Rattle.core_read.proofs.Nul.{store}
use Rattle.core_write.proofs.writer.copy_bytes.Goals as goal

pub loop-i-init : goal.loop-i-init
loop-i-init c = refl

pub loop-i-preserved : goal.loop-i-preserved
loop-i-preserved c = rw (c.loop-i.invariant, add-one) (store c.args.src.now c.args.out.now c.loop-i.i c.loop-i-test.true (omega (arith, c.requires)))

pub returns : goal.returns
returns c =
    let all = take_all c.loop-i.i c.args.src.now c.loop-i-test.false in
    let none = drop_all {X = ℕ} c.loop-i.i c.args.out.now (omega (arith, c.requires, c.loop-i-test.false)) in
    c.loop-i.invariant ∙ rw (all, none) (append-nil _)
