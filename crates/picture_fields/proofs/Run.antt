-- The steps of a picture's read and write, as the code takes them.
use mathlib.Core.Path.{◌≡◌, refl, ap}
use mathlib.Core.Bool.{Bool, true, false, cond}
use mathlib.Core.List.{List, ◌++◌}
use Prim.Native.Nat.{ℕ, ◌+◌, ◌*◌, ◌/◌, ◌≤◌}
use native.Mathlib.Omega.{arith}
use lib.ListN.{length, drop}
use lib.Dec.{eqb}
use Rattle.core_read.specs.Bytes.{bytes_of, bytes_of_all}
use Rattle.core_read.specs.Taken.{over, number_taken, Place}
use Rattle.core_read.specs.Taken.{Taken}
use Rattle.core_read.specs.Lists.{numbers_at}
use Rattle.core_read.specs.declared.cursor.ByteOrder.{ByteOrder}
use Rattle.core_read.proofs.Lists.{numbers_here, length_numbers}
use Rattle.core_write.proofs.Chain.{puts_as}
use Rattle.core_write.specs.Puts.{Puts}
use Rattle.core_write.specs.declared.writer.Writer.{Writer}
use Rattle.core_read.specs.declared.error.Refusal.{Refusal}
use Rattle.ui2d.specs.Parts.{encode_colors}
use Rattle.picture_fields.specs.Picture.{shape_taken, quads_of, Measured, shape_byte, shape_length, encode_shape, encode_picture, picture_length, ShapeIndex}
use Rattle.picture_fields.specs.declared.PicturePane.{PicturePane}
use Rattle.picture_fields.specs.declared.PictureFound.{PictureFound}
use Rattle.std.specs.Prelude.{Err, None, Some}

-- ---- quads

-- the quads of a picture that was measured, over a list
pub quads_over : {s : List ℕ} {n : ℕ} (order : ByteOrder) (t : PictureFound) (old : List ℕ) → Measured s t n
    → over (quads_of order s t) old ≡ numbers_at order 4 (8 * t.picture.quad_count) s t.quads.pos ++ drop (8 * t.picture.quad_count) old
unfolding quads_of
quads_over {s} order t old m =
    let k : ℕ = 8 * t.picture.quad_count in
    let h : t.quads.pos + 4 * k ≤ length s = omega (arith, m.there) in
    let e : quads_of order s t ≡ numbers_at order 4 k s t.quads.pos = ap (λ (u : Taken (List ℕ)). u.value) (numbers_here order 4 s k t.quads h) in
    rw (e, length_numbers order 4 k s t.quads.pos)

-- ---- a shape index

-- a run that was refused stays so
shape_test : (t : Bool) (a b : Taken ShapeIndex) (p : Place) → a.then ≡ p → b.then ≡ p → (cond t a b).then ≡ p
shape_test true a b p e f = e
shape_test false a b p e f = f

pub shape_stays : (order : ByteOrder) (s : List ℕ) (byte : ℕ) (why : Refusal) → (shape_taken order s (Err why) byte).then ≡ Err why
unfolding shape_taken number_taken
shape_stays order s byte why = shape_test (eqb byte 0) _ _ (Err why) refl refl

pub shape_short : (x : ShapeIndex) → shape_length x ≤ 4
shape_short None = omega arith
shape_short (Some i) = omega arith

-- ---- the puts of a picture, one after the other

pub picture_put : (x : PicturePane) (quads : List ℕ) (byte : ℕ) {a b : Writer} → byte ≡ shape_byte x.shape_info_array_index
    → Puts a b (16 + (2 + (1 + (1 + (4 * length quads + shape_length x.shape_info_array_index)))))
    (λ order. encode_colors order x.vertex_colors
    ++ (bytes_of order 2 x.material_index
    ++ (bytes_of order 1 (length quads / 8)
    ++ (bytes_of order 1 byte ++ (bytes_of_all order 4 quads ++ encode_shape order x.shape_info_array_index)))))
    → Puts a b (picture_length x quads) (λ order. encode_picture order x quads)
unfolding encode_picture picture_length
picture_put x quads byte e h = puts_as (omega arith) (λ order. rw e) h
