use mathlib.Core.Path.{refl, ap}
use native.Mathlib.Omega.{arith}
use borrow.Author.Tests.{lt-ltb, le-ltb}
use Rattle.lines.specs.Input.{remains, with_line, onward}
use Rattle.lines.specs.declared.input.Input.{Input}
use Rattle.lines.proofs.input.next.Goals as goal

pub returns-then-input : goal.returns-then-input
unfolding remains onward with_line
returns-then-input g c =
    let count = ap (λ (x : Input). x.count) c.onward_in.ensures.value in
    let taken = c.if-input.true in
    record { value = simp (lt-ltb _ _ taken) c.onward_in.ensures.value; count_in_bounds = omega arith; chunk_after = simp (lt-ltb _ _ taken) refl; bytes_after = simp (lt-ltb _ _ taken) c.onward_in.ensures.bytes_after }

pub returns-else-input : goal.returns-else-input
unfolding remains
returns-else-input g c = record { value = simp (le-ltb _ _ c.if-input.false) c.refill.ensures.0; count_in_bounds = c.refill.ensures.1; chunk_after = simp (le-ltb _ _ c.if-input.false) refl; bytes_after = simp (le-ltb _ _ c.if-input.false) refl }
