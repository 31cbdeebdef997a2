use native.Mathlib.Omega.{arith}
use Rattle.core_read.proofs.Steps.{number_stands, after}
use Rattle.text_box_fixed.specs.Fixed.{shadow_taken}
use Rattle.text_box_fixed.proofs.fixed.TextShadowField.at.Goals as goal

pub returns : goal.returns
unfolding shadow_taken
returns c = record {
  here = λ k e.
      let tilt = number_stands _ _ _ _ (omega arith) c.number_at.ensures in
      let line = number_stands _ _ _ _ (omega arith) c.number_at-2.ensures in
      let each = number_stands _ _ _ _ (omega arith) c.number_at-3.ensures in
      rw (
        c.at.ensures.here k e,
        after c.at-2.ensures k 8 (omega (arith, e)),
        after c.at-3.ensures k 16 (omega (arith, e)),
        after c.at-4.ensures k 20 (omega (arith, e)),
        after tilt k 24 (omega (arith, e)),
        after line k 28 (omega (arith, e)),
        after each k 32 (omega (arith, e)),
      );
}
