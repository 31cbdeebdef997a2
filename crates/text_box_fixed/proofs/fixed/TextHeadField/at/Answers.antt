use native.Mathlib.Omega.{arith}
use Rattle.core_read.proofs.Steps.{number_stands, after}
use Rattle.text_box_fixed.specs.Fixed.{head_taken}
use Rattle.text_box_fixed.proofs.fixed.TextHeadField.at.Goals as goal

pub returns : goal.returns
unfolding head_taken
returns c = record {
  here = λ k e.
      let size = number_stands _ _ _ _ (omega arith) c.number_at.ensures in
      let length = number_stands _ _ _ _ (omega arith) c.number_at-2.ensures in
      let material = number_stands _ _ _ _ (omega arith) c.number_at-3.ensures in
      let font = number_stands _ _ _ _ (omega arith) c.number_at-4.ensures in
      let origin = number_stands _ _ _ _ (omega arith) c.number_at-5.ensures in
      let alignment = number_stands _ _ _ _ (omega arith) c.number_at-6.ensures in
      let raw = number_stands _ _ _ _ (omega arith) c.number_at-7.ensures in
      let tilt = number_stands _ _ _ _ (omega arith) c.number_at-8.ensures in
      rw (
        size.here k e,
        after length k 2 (omega (arith, e)),
        after material k 4 (omega (arith, e)),
        after font k 6 (omega (arith, e)),
        after origin k 8 (omega (arith, e)),
        after alignment k 9 (omega (arith, e)),
        after raw k 10 (omega (arith, e)),
        after tilt k 12 (omega (arith, e)),
        c.from.ensures,
        c.from-2.ensures,
        c.from-3.ensures,
      );
}
