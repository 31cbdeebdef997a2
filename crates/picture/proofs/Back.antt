-- A picture that a write lets through is read back, anywhere in a buffer.
use mathlib.Core.Path.{◌≡◌, refl, ap, ◌∙◌}
use Prim.Native.Nat.{ℕ, ◌+◌, ◌*◌, ◌/◌, ◌^◌, ◌<◌}
use native.Mathlib.Nat.{add-zero}
use native.Mathlib.Omega.{arith}
use mathlib.Core.List.{List}
use lib.ListN.{length, length-append}
use Rattle.ui2d.proofs.QuadRuns.{count_fit, eight}
use Rattle.core_read.specs.Bytes.{bytes_of, bytes_of_all}
use Rattle.core_read.specs.Taken.{advanced}
use Rattle.core_read.specs.Taken.{Taken}
use Rattle.core_read.specs.Lists.{numbers_taken}
use Rattle.core_read.specs.declared.cursor.ByteOrder.{ByteOrder}
use Rattle.core_read.specs.declared.cursor.Cursor.{Cursor}
use Rattle.core_read.proofs.Numbers.{length_bytes}
use Rattle.core_read.proofs.Cursors.{advanced_zero, advanced_more}
use Rattle.core_read.proofs.Back.{Holds, Fit, length_all, numbers_back, cut, there, number_at_lem}
use Rattle.ui2d.specs.Parts.{encode_colors}
use Rattle.ui2d.proofs.Colors.{length_colors, colors_at}
use Rattle.pane_read.specs.Pane.{Sound}
use Rattle.pane_read.specs.declared.Pane.{Pane}
use Rattle.pane.proofs.Back.{length_pane}
use Rattle.picture_fields.specs.Picture.{shape_taken, picture_taken, quads_of, picture_quads, GoodPicture, shape_byte, shape_length, encode_shape, encode_picture, picture_length, ShapeIndex}
use Rattle.picture.specs.Body.{encode_body, body_length}
use Rattle.picture_fields.specs.Same.{SamePicture}
use Rattle.picture_fields.specs.Typed.{TypedShape, TypedPicture}
use Rattle.picture_fields.specs.declared.PicturePane.{PicturePane}
use Rattle.picture_fields.specs.declared.PictureFound.{PictureFound}
use Rattle.std.specs.Prelude.{None, Ok, Some}

-- what reading a picture that was written gives: the same, with the count of its quads
unfoldable pub read_back_picture : PicturePane → List ℕ → PicturePane
read_back_picture x quads = record {
  vertex_colors = x.vertex_colors;
  material_index = x.material_index;
  shape_info_array_index = x.shape_info_array_index;
  quad_count = length quads / 8;
}

pub read_same : (x : PicturePane) (quads : List ℕ) → SamePicture (read_back_picture x quads) quads x quads
unfolding read_back_picture
read_same x quads = record { colors = refl; material = refl; shape = refl; quads = refl }

-- ---- lengths

length_shape : (order : ByteOrder) (x : ShapeIndex) → length (encode_shape order x) ≡ shape_length x
unfolding encode_shape
length_shape order None = refl
length_shape order (Some i) = length_bytes order 4 i

pub length_picture : (order : ByteOrder) (x : PicturePane) (quads : List ℕ) → length x.vertex_colors ≡ 4 → length (encode_picture order x quads) ≡ picture_length x quads
unfolding encode_picture picture_length
length_picture order x quads h =
    simp (length-append, length_bytes, length_all, length_shape, length_colors order x.vertex_colors h) (omega arith)

-- ---- the read

shape_fit : (x : ShapeIndex) → shape_byte x < 256 ^ 1
shape_fit None = omega arith
shape_fit (Some i) = omega arith

-- where its parts stand
record Parts (s : List ℕ) (c : Cursor) (order : ByteOrder) (x : PicturePane) (l : List ℕ) : Type 0 where
  colors : Holds s (c.pos + 0) (encode_colors order x.vertex_colors)
  material : Holds s (c.pos + 16) (bytes_of order 2 x.material_index)
  count : Holds s (c.pos + 18) (bytes_of order 1 (length l / 8))
  byte : Holds s (c.pos + 19) (bytes_of order 1 (shape_byte x.shape_info_array_index))
  quads : Holds s (c.pos + 20) (bytes_of_all order 4 l)
  shape : Holds s (c.pos + (20 + 4 * length l)) (encode_shape order x.shape_info_array_index)

module _ {s : List ℕ} (c : Cursor) (order : ByteOrder) where
  numbers_at_lem : (k : ℕ) (l : List ℕ) → Fit 4 l → Holds s (c.pos + k) (bytes_of_all order 4 l)
      → ◌≡◌ {A = Taken (List ℕ)} (numbers_taken order 4 (length l) s (Ok (advanced c k))) (record { value = l; then = Ok (advanced c (k + 4 * length l)) })
  numbers_at_lem k l f a = numbers_back (advanced c k) order 4 l f (there c k _ a) ∙ rw advanced_more

  shape_at : (k : ℕ) (x : ShapeIndex) → TypedShape x → Holds s (c.pos + k) (encode_shape order x)
      → ◌≡◌ {A = Taken ShapeIndex} (shape_taken order s (Ok (advanced c k)) (shape_byte x)) (record { value = x; then = Ok (advanced c (k + shape_length x)) })
  unfolding shape_taken encode_shape
  shape_at k None t a = rw (add-zero k)
  shape_at k (Some i) t a = rw (number_at_lem c order k 4 i t a)

  parts : (x : PicturePane) (quads : List ℕ) → TypedPicture x → Holds s (c.pos + 0) (encode_picture order x quads) → Parts s c order x quads
  unfolding encode_picture
  parts x quads t a =
      let (a₁, r₁) = cut c 0 16 _ _ (length_colors order x.vertex_colors t.colors.four) a in
      let (a₂, r₂) = cut c 16 2 _ _ (length_bytes order 2 x.material_index) r₁ in
      let (a₃, r₃) = cut c 18 1 _ _ (length_bytes order 1 (length quads / 8)) r₂ in
      let (a₄, r₄) = cut c 19 1 _ _ (length_bytes order 1 (shape_byte x.shape_info_array_index)) r₃ in
      let (a₅, a₆) = cut c 20 (4 * length quads) _ _ (length_all order 4 quads) r₄ in
      record { colors = a₁; material = a₂; count = a₃; byte = a₄; quads = a₅; shape = a₆ }

  picture_from : (x : PicturePane) (quads : List ℕ) → TypedPicture x → GoodPicture quads → Fit 4 quads → Holds s (c.pos + 0) (encode_picture order x quads)
      → ◌≡◌ {A = Taken PictureFound} (picture_taken order s (Ok (advanced c 0)))
      (record { value = record { picture = read_back_picture x quads; quads = advanced c 20 }; then = Ok (advanced c (picture_length x quads)) })
  unfolding picture_taken read_back_picture picture_length
  picture_from x quads t g f a =
      let shape : ShapeIndex = x.shape_info_array_index in
      let h = parts x quads t a in
      rw (
        colors_at c order 0 x.vertex_colors t.colors h.colors,
        number_at_lem c order 16 2 x.material_index t.material h.material,
        number_at_lem c order 18 1 (length quads / 8) (count_fit (length quads) g.few) h.count,
        number_at_lem c order 19 1 (shape_byte shape) (shape_fit shape) h.byte,
        eight (length quads) g.whole,
        numbers_at_lem 20 quads f h.quads,
        shape_at (20 + 4 * length quads) shape t.shape h.shape,
      )

  -- THE PICTURE
  pub picture_back : (x : PicturePane) (quads : List ℕ) → TypedPicture x → GoodPicture quads → Fit 4 quads → Holds s c.pos (encode_picture order x quads)
      → ◌≡◌ {A = Taken PictureFound} (picture_taken order s (Ok c))
      (record { value = record { picture = read_back_picture x quads; quads = advanced c 20 }; then = Ok (advanced c (picture_length x quads)) })
  picture_back x quads t g f a =
      let h : Holds s (c.pos + 0) (encode_picture order x quads) = rw (add-zero c.pos) a in
      rw (advanced_zero c) at (picture_from x quads t g f h)

  -- its quads
  pub quads_back : (x : PicturePane) (quads : List ℕ) → TypedPicture x → GoodPicture quads → Fit 4 quads → Holds s c.pos (encode_picture order x quads)
      → picture_quads order s (Ok c) ≡ quads
  unfolding picture_quads quads_of read_back_picture
  quads_back x quads t g f a =
      let h : Holds s (c.pos + 0) (encode_picture order x quads) = rw (add-zero c.pos) a in
      ap (λ (u : Taken PictureFound). quads_of order s u.value) (picture_back x quads t g f a)
      ∙ ap (λ (n : ℕ). (numbers_taken order 4 n s (Ok (advanced c 20))).value) (eight (length quads) g.whole)
      ∙ ap (λ (u : Taken (List ℕ)). u.value) (numbers_at_lem 20 quads f (parts x quads t h).quads)

-- ---- with the base

pub length_body : (order : ByteOrder) (b : Pane) (x : PicturePane) (quads : List ℕ) → Sound b → length x.vertex_colors ≡ 4
    → length (encode_body order b x quads) ≡ body_length x quads
unfolding encode_body body_length
length_body order b x quads h f = rw (length-append, length_pane order b h, length_picture order x quads f)
