-- What the types of the code guarantee of a picture.
use Rattle.std.specs.Prelude.{◌^◌, ◌<◌, None, Some}
use Rattle.ui2d.specs.Typed.{TypedColors}
use Rattle.picture_fields.specs.declared.PicturePane.{PicturePane}
use Rattle.picture_fields.specs.Picture.{ShapeIndex}

abbrev pub TypedShape : ShapeIndex → Type 0
TypedShape None = Unit {0}
TypedShape (Some i) = i < 256 ^ 4

pub record TypedPicture (x : PicturePane) : Type 0 where
  pub colors : TypedColors x.vertex_colors
  pub material : x.material_index < 256 ^ 2
  pub shape : TypedShape x.shape_info_array_index
  pub count : x.quad_count < 256
