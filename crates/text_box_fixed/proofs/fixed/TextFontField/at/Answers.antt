use native.Mathlib.Omega.{arith}
use Rattle.core_read.proofs.Steps.{number_stands, after}
use Rattle.text_box_fixed.specs.Fixed.{font_taken}
use Rattle.text_box_fixed.proofs.fixed.TextFontField.at.Goals as goal

pub returns : goal.returns
unfolding font_taken
returns c = record {
  here = λ k e.
      let text = number_stands _ _ _ _ (omega arith) c.number_at.ensures in
      let character = number_stands _ _ _ _ (omega arith) c.number_at-2.ensures in
      let line = number_stands _ _ _ _ (omega arith) c.number_at-3.ensures in
      let label = number_stands _ _ _ _ (omega arith) c.number_at-4.ensures in
      rw (
        text.here k e,
        after c.at.ensures k 4 (omega (arith, e)),
        after c.at-2.ensures k 8 (omega (arith, e)),
        after c.at-3.ensures k 12 (omega (arith, e)),
        after character k 20 (omega (arith, e)),
        after line k 24 (omega (arith, e)),
        after label k 28 (omega (arith, e)),
      );
}
