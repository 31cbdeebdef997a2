-- Equality of pictures beyond the base: equal ones have equal bytes, and two that are equal to a third are equal.
use mathlib.Core.Path.{◌≡◌, sym, ◌∙◌}
use mathlib.Core.List.{List}
use Prim.Native.Nat.{ℕ}
use Rattle.core_read.specs.declared.cursor.ByteOrder.{ByteOrder}
use Rattle.picture_fields.specs.Picture.{encode_picture, picture_length}
use Rattle.picture_fields.specs.Same.{SamePicture}
use Rattle.picture_fields.specs.declared.PicturePane.{PicturePane}

module _ (x : PicturePane) (k : List ℕ) (y : PicturePane) (l : List ℕ) (h : SamePicture x k y l) where
  pub encode_same : (order : ByteOrder) → encode_picture order x k ≡ encode_picture order y l
  unfolding encode_picture
  encode_same order = rw (h.colors, h.material, h.shape, h.quads)

  pub length_same : picture_length x k ≡ picture_length y l
  unfolding picture_length
  length_same = rw (h.shape, h.quads)

pub same_both : (x : PicturePane) (k : List ℕ) (y : PicturePane) (l : List ℕ) (z : PicturePane) (m : List ℕ)
    → SamePicture x k y l → SamePicture x k z m → SamePicture y l z m
same_both x k y l z m h g = record {
  colors = sym h.colors ∙ g.colors;
  material = sym h.material ∙ g.material;
  shape = sym h.shape ∙ g.shape;
  quads = sym h.quads ∙ g.quads;
}
