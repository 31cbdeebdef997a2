use native.Mathlib.Omega.{arith}
use Rattle.core_read.proofs.Steps.{number_stands, after}
use Rattle.ui2d.specs.Material.{material_taken}
use Rattle.ui2d.proofs.material.MaterialField.at.Goals as goal

pub returns : goal.returns
unfolding material_taken
returns c = record {
  here = λ k e.
      let index = number_stands _ _ _ _ (omega arith) c.number_at.ensures in
      let first = number_stands _ _ _ _ (omega arith) c.number_at-2.ensures in
      let second = number_stands _ _ _ _ (omega arith) c.number_at-3.ensures in
      rw (index.here k e, after first k 2 (omega (arith, e)), after second k 3 (omega (arith, e)));
}
