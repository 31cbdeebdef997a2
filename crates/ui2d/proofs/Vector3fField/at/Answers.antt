use native.Mathlib.Omega.{arith}
use Rattle.core_read.proofs.Steps.{number_stands, after}
use Rattle.ui2d.specs.Parts.{vector3_taken}
use Rattle.ui2d.proofs.Vector3fField.at.Goals as goal

pub returns : goal.returns
unfolding vector3_taken
returns c = record {
  here = λ k e.
      let x = number_stands _ _ _ _ (omega arith) c.number_at.ensures in
      let y = number_stands _ _ _ _ (omega arith) c.number_at-2.ensures in
      let z = number_stands _ _ _ _ (omega arith) c.number_at-3.ensures in
      rw (x.here k e, after y k 4 (omega (arith, e)), after z k 8 (omega (arith, e)));
}
