use native.Mathlib.Omega.{arith}
use Rattle.core_read.proofs.Steps.{after}
use Rattle.ui2d.specs.Parts.{colors_taken}
use Rattle.ui2d.proofs.colors_at.Goals as goal

pub returns : goal.returns
unfolding colors_taken
returns c = record {
  here = λ k e.
      rw (
        c.at-top_left.ensures.here k e,
        after c.at-top_right.ensures k 4 (omega (arith, e)),
        after c.at-bottom_left.ensures k 8 (omega (arith, e)),
        after c.at-bottom_right.ensures k 12 (omega (arith, e)),
      );
}
