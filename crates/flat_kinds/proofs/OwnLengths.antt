-- How many words a shape index has.
use mathlib.Core.Path.{◌≡◌, refl}
use lib.ListN.{length}
use Rattle.flat_kinds.specs.Own.{shape_words}
use Rattle.picture_fields.specs.Picture.{ShapeIndex}
use Rattle.std.specs.Prelude.{None, Some}

pub shape_long : (x : ShapeIndex) → length (shape_words x) ≡ 2
shape_long None = refl
shape_long (Some i) = refl
