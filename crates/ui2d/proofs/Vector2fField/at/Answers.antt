use native.Mathlib.Omega.{arith}
use Rattle.core_read.proofs.Steps.{number_stands, after}
use Rattle.ui2d.specs.Parts.{vector2_taken}
use Rattle.ui2d.proofs.Vector2fField.at.Goals as goal

pub returns : goal.returns
unfolding vector2_taken
returns c = record {
  here = λ k e.
      let x = number_stands _ _ _ _ (omega arith) c.number_at.ensures in
      let y = number_stands _ _ _ _ (omega arith) c.number_at-2.ensures in
      rw (x.here k e, after y k 4 (omega (arith, e)));
}
