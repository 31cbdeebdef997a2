use mathlib.Core.Path.{◌≡◌, sym, ◌∙◌}
use Prim.Native.Nat.{◌≤◌, ◌<◌}
use native.Mathlib.Omega.{arith}
use borrow.Author.Rules.{rules}
use borrow.Author.Tests.{tests}
use lib.ListN.{length-drop}
use Rattle.std.proofs.lemmas.List.{take_all}
use Rattle.std.proofs.lemmas.Iterator.{IsFirst-from_position, YieldsList-from_slice}
use Rattle.utf8.specs.Utf8.{ascii_run}
use Rattle.utf8.proofs.Walk.{run_at}
use Rattle.utf8.proofs.after_ascii.Goals as goal

pub returns : goal.returns
returns c =
    let s = c.args.s.now in
    let run : ascii_run s ≡ c.unwrap_or-run.result =
    run_at s c.position.result
    (IsFirst-from_position _ _ c.position.result (λ b. 0x80 ≤ b) (λ b. b < 0x80) c.position.ensures.ran (YieldsList-from_slice s (cc))
    (λ x q k. search (rules, tests)) (λ x q k. search (rules, tests)))
    ∙ sym c.unwrap_or-run.ensures in
    rw run (take_all _ _ (omega (arith, length-drop c.unwrap_or-run.result s)))
