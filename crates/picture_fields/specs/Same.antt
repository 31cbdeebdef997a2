-- When two pictures, each with its quads, are equal beyond the base: floats by their bits, the shape index by presence and content. Counts are not compared.
use Rattle.std.specs.Prelude.{◌≡◌, ℕ, List}
use Rattle.picture_fields.specs.declared.PicturePane.{PicturePane}

pub record SamePicture (x : PicturePane) (k : List ℕ) (y : PicturePane) (l : List ℕ) : Type 0 where
  pub colors : x.vertex_colors ≡ y.vertex_colors
  pub material : x.material_index ≡ y.material_index
  pub shape : x.shape_info_array_index ≡ y.shape_info_array_index
  pub quads : k ≡ l
