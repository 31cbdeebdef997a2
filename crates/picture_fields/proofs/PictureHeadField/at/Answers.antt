use native.Mathlib.Omega.{arith}
use Rattle.core_read.proofs.Steps.{after}
use Rattle.picture_fields.specs.Picture.{head_taken}
use Rattle.picture_fields.proofs.PictureHeadField.at.Goals as goal

pub returns : goal.returns
unfolding head_taken
returns c = record {
  here = λ k e. rw (c.colors_at.ensures.here k e, after c.at.ensures k 16 (omega (arith, e)));
}
