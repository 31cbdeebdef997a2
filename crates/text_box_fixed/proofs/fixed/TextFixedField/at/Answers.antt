use native.Mathlib.Omega.{arith}
use Rattle.core_read.proofs.Steps.{after}
use Rattle.text_box_fixed.specs.Fixed.{fixed_taken}
use Rattle.text_box_fixed.proofs.fixed.TextFixedField.at.Goals as goal

pub returns : goal.returns
unfolding fixed_taken
returns c = record {
  here = λ k e.
      rw (c.at.ensures.here k e, after c.at-2.ensures k 16 (omega (arith, e)), after c.at-3.ensures k 48 (omega (arith, e)));
}
