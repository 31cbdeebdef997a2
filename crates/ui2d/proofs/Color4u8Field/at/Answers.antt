use native.Mathlib.Omega.{arith}
use Rattle.core_read.proofs.Steps.{number_stands, after}
use Rattle.ui2d.specs.Parts.{color_taken}
use Rattle.ui2d.proofs.Color4u8Field.at.Goals as goal

pub returns : goal.returns
unfolding color_taken
returns c = record {
  here = λ k e.
      let r = number_stands _ _ _ _ (omega arith) c.number_at.ensures in
      let g = number_stands _ _ _ _ (omega arith) c.number_at-2.ensures in
      let b = number_stands _ _ _ _ (omega arith) c.number_at-3.ensures in
      let a = number_stands _ _ _ _ (omega arith) c.number_at-4.ensures in
      rw (r.here k e, after g k 1 (omega (arith, e)), after b k 2 (omega (arith, e)), after a k 3 (omega (arith, e)));
}
