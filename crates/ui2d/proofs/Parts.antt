-- Vectors, colours and quads are runs of numbers of one width: so they are written, and so they are read back.
use mathlib.Core.Path.{◌≡◌, refl, sym, ap, ◌∙◌, subst}
use Prim.Native.Nat.{ℕ, suc, ◌+◌, ◌*◌, ◌^◌, ◌≤◌, ◌<◌}
use native.Mathlib.Nat.{add-zero, mul-zero, mul-suc}
use native.Mathlib.Omega.{arith}
use mathlib.Core.List.{List, [], ◌∷◌, append_assoc, append-nil}
use lib.ListN.{length, get_or}
use Rattle.core_read.specs.Bytes.{bytes_of, bytes_of_all}
use Rattle.core_read.specs.Taken.{advanced, Place}
use Rattle.core_read.specs.Taken.{Taken}
use Rattle.core_read.specs.Lists.{numbers_taken, numbers_at}
use Rattle.core_read.specs.declared.cursor.ByteOrder.{ByteOrder}
use Rattle.core_read.specs.declared.cursor.Cursor.{Cursor}
use Rattle.core_read.proofs.Numbers.{length_bytes}
use Rattle.core_read.proofs.Back.{Holds, holds_fits, length_all, cut, number_at_lem}
use Rattle.core_read.proofs.Cursors.{pos_advanced}
use Rattle.core_read.proofs.Lists.{numbers_here}
use Rattle.floats.specs.Floats.{float}
use Rattle.ui2d.specs.Parts.{vector2_taken, vector3_taken, color_taken, encode_vector2, encode_vector3, encode_color, encode_quad}
use Rattle.ui2d.specs.Quads.{vector_bits, quad_bits, vector_at, quad_at}
use Rattle.ui2d.specs.Typed.{TypedVector2, TypedVector3, TypedColor}
use Rattle.ui2d.specs.declared.Vector2f.{Vector2f}
use Rattle.ui2d.specs.declared.Vector3f.{Vector3f}
use Rattle.ui2d.specs.declared.Color4u8.{Color4u8}
use Rattle.ui2d.specs.declared.Quad.{Quad}
use Rattle.std.specs.Prelude.{Ok}

-- ---- the numbers

abbrev pub vector3_bits : Vector3f → List ℕ
vector3_bits v = v.x.bits ∷ v.y.bits ∷ v.z.bits ∷ []

abbrev pub channels : Color4u8 → List ℕ
channels v = v.r ∷ v.g ∷ v.b ∷ v.a ∷ []

-- each number of a list fits w bytes
abbrev pub Fits : ℕ → List ℕ → Type 0
Fits w [] = Unit {0}
Fits w (v ∷ vs) = (v < 256 ^ w) × Fits w vs

-- ---- the bytes are those of the numbers

module _ (order : ByteOrder) where
  pub vector2_bytes : (v : Vector2f) → encode_vector2 order v ≡ bytes_of_all order 4 (vector_bits v)
  unfolding encode_vector2 bytes_of_all vector_bits
  vector2_bytes v = simp append-nil

  pub vector3_bytes : (v : Vector3f) → encode_vector3 order v ≡ bytes_of_all order 4 (vector3_bits v)
  unfolding encode_vector3 bytes_of_all
  vector3_bytes v = simp append-nil

  pub color_bytes : (v : Color4u8) → encode_color order v ≡ bytes_of_all order 1 (channels v)
  unfolding encode_color bytes_of_all
  color_bytes v = simp append-nil

  pub quad_bytes : (v : Quad) → encode_quad order v ≡ bytes_of_all order 4 (quad_bits v)
  unfolding encode_quad encode_vector2 bytes_of_all quad_bits vector_bits
  quad_bytes v = simp (append_assoc, append-nil)

  pub length_vector2 : (v : Vector2f) → length (encode_vector2 order v) ≡ 8
  unfolding vector_bits
  length_vector2 v = ap length (vector2_bytes v) ∙ length_all order 4 (vector_bits v)

  pub length_vector3 : (v : Vector3f) → length (encode_vector3 order v) ≡ 12
  length_vector3 v = ap length (vector3_bytes v) ∙ length_all order 4 (vector3_bits v)

  pub length_color : (v : Color4u8) → length (encode_color order v) ≡ 4
  length_color v = ap length (color_bytes v) ∙ length_all order 1 (channels v)

  pub length_quad : (v : Quad) → length (encode_quad order v) ≡ 32
  unfolding quad_bits vector_bits
  length_quad v = ap length (quad_bytes v) ∙ length_all order 4 (quad_bits v)

-- ---- reading one is reading its numbers

abbrev pub as_vector2 : Taken (List ℕ) → Taken Vector2f
as_vector2 t = record { value = vector_at t.value 0; then = t.then }

abbrev pub vector3_of : List ℕ → Vector3f
vector3_of l = record { x = float (get_or l 0 0); y = float (get_or l 1 0); z = float (get_or l 2 0) }

abbrev pub as_vector3 : Taken (List ℕ) → Taken Vector3f
as_vector3 t = record { value = vector3_of t.value; then = t.then }

abbrev pub color_of : List ℕ → Color4u8
color_of l = record { r = get_or l 0 0; g = get_or l 1 0; b = get_or l 2 0; a = get_or l 3 0 }

abbrev pub as_color : Taken (List ℕ) → Taken Color4u8
as_color t = record { value = color_of t.value; then = t.then }

module _ (order : ByteOrder) (s : List ℕ) (p : Place) where
  pub vector2_run : vector2_taken order s p ≡ as_vector2 (numbers_taken order 4 2 s p)
  unfolding vector2_taken numbers_taken vector_at
  vector2_run = refl

  pub vector3_run : vector3_taken order s p ≡ as_vector3 (numbers_taken order 4 3 s p)
  unfolding vector3_taken numbers_taken
  vector3_run = refl

  pub color_run : color_taken order s p ≡ as_color (numbers_taken order 1 4 s p)
  unfolding color_taken numbers_taken
  color_run = refl

-- ---- read back, at an offset k of a cursor

module _ {s : List ℕ} (c : Cursor) (order : ByteOrder) where
  pub numbers_at_lem : (w k : ℕ) (l : List ℕ) → Fits w l → Holds s (c.pos + k) (bytes_of_all order w l)
      → ◌≡◌ {A = Taken (List ℕ)} (numbers_taken order w (length l) s (Ok (advanced c k))) (record { value = l; then = Ok (advanced c (k + w * length l)) })
  unfolding numbers_taken bytes_of_all
  numbers_at_lem w k [] f a = rw (mul-zero, add-zero)
  numbers_at_lem w k (v ∷ l) f a =
      let (h, r) = cut c k w (bytes_of order w v) (bytes_of_all order w l) (length_bytes order w v) a in
      let m : k + w + w * length l ≡ k + w * suc (length l) = omega (arith, mul-suc w (length l)) in
      rw (number_at_lem c order k w v f.0 h, numbers_at_lem w (k + w) l f.1 r, m)

  -- what is read and written as a run of numbers
  pub run_at : {R : Type 0} (w k : ℕ) (l : List ℕ) (made : Taken (List ℕ) → R) {r : R} {e : List ℕ}
      → r ≡ made (numbers_taken order w (length l) s (Ok (advanced c k))) → e ≡ bytes_of_all order w l → Fits w l → Holds s (c.pos + k) e
      → r ≡ made (record { value = l; then = Ok (advanced c (k + w * length l)) })
  run_at w k l made read written f a = read ∙ ap made (numbers_at_lem w k l f (subst (Holds s (c.pos + k)) written a))

  pub vector2_at : (k : ℕ) (v : Vector2f) → TypedVector2 v → Holds s (c.pos + k) (encode_vector2 order v)
      → ◌≡◌ {A = Taken Vector2f} (vector2_taken order s (Ok (advanced c k))) (record { value = v; then = Ok (advanced c (k + 8)) })
  unfolding vector_bits vector_at
  vector2_at k v t a = run_at 4 k (vector_bits v) as_vector2 (vector2_run order s _) (vector2_bytes order v) (t.x, (t.y, tt)) a

  pub vector3_at : (k : ℕ) (v : Vector3f) → TypedVector3 v → Holds s (c.pos + k) (encode_vector3 order v)
      → ◌≡◌ {A = Taken Vector3f} (vector3_taken order s (Ok (advanced c k))) (record { value = v; then = Ok (advanced c (k + 12)) })
  vector3_at k v t a = run_at 4 k (vector3_bits v) as_vector3 (vector3_run order s _) (vector3_bytes order v) (t.x, (t.y, (t.z, tt))) a

  pub color_at_lem : (k : ℕ) (v : Color4u8) → TypedColor v → Holds s (c.pos + k) (encode_color order v)
      → ◌≡◌ {A = Taken Color4u8} (color_taken order s (Ok (advanced c k))) (record { value = v; then = Ok (advanced c (k + 4)) })
  color_at_lem k v t a = run_at 1 k (channels v) as_color (color_run order s _) (color_bytes order v) (t.r, (t.g, (t.b, (t.a, tt)))) a

  pub quad_back : (k : ℕ) (v : Quad) → Fits 4 (quad_bits v) → Holds s (c.pos + k) (encode_quad order v) → quad_at (numbers_at order 4 8 s (c.pos + k)) 0 ≡ v
  unfolding quad_bits vector_bits quad_at vector_at
  quad_back k v t a =
      let fits : c.pos + k + 32 ≤ length s = omega (arith, length_quad order v, holds_fits (encode_quad order v) a) in
      let b = subst (Holds s (c.pos + k)) (quad_bytes order v) a in
      let e : (advanced c k).pos + 32 ≤ length s = rw pos_advanced fits in
      let n = numbers_here order 4 s 8 (advanced c k) e in
      rw (← pos_advanced c k) (ap (λ t. quad_at t.value 0) (sym n ∙ numbers_at_lem 4 k (quad_bits v) t b))
