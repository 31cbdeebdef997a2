use native.Mathlib.Omega.{arith}
use Rattle.core_read.proofs.Steps.{after}
use Rattle.window_read.proofs.Run.{content_by}
use Rattle.window_read.proofs.WindowContentField.at.Goals as goal

pub returns : goal.returns
returns c = record {
  here = λ k e. content_by _ _ _ _ _ _ _ (c.colors_at-vertex_colors.ensures.here k e) (after c.at-material.ensures k 16 (omega (arith, e)));
}
