-- Words that stand at a place are read back: flags, numbers, bytes, floats, colours.
use mathlib.Core.Path.{◌≡◌, refl, sym, ap, ◌∙◌, subst}
use Prim.Native.Nat.{ℕ, ◌+◌, ◌%◌, ◌<◌}
use native.Mathlib.Nat.{mod-eq_of_lt}
use native.Mathlib.Omega.{arith}
use mathlib.Core.Bool.{Bool, true, false}
use mathlib.Core.List.{List, [], ◌∷◌, ◌++◌}
use lib.ListN.{length, drop, get_or, get_or-append}
use lib.Seq.{drop_at, get_or-drop}
use Rattle.ui2d.proofs.Colors.{corners}
use Rattle.core_read.proofs.Back.{Holds, split}
use Rattle.flags.specs.Packed.{flag_of}
use Rattle.flags.specs.Enums.{horizontal_of, horizontal_number, vertical_of, vertical_number}
use Rattle.flags.specs.declared.position.HorizontalPosition.{HorizontalPosition}
use Rattle.flags.specs.declared.position.VerticalPosition.{VerticalPosition}
use Rattle.flags.proofs.Enums.{horizontal_back, horizontal_le, vertical_back, vertical_le}
use Rattle.floats.specs.Floats.{float}
use Rattle.ui2d.specs.Typed.{TypedVector2, TypedVector3, TypedColor, TypedColors, color_at}
use Rattle.floats.specs.declared.Binary32.{Binary32}
use Rattle.ui2d.specs.declared.Vector2f.{Vector2f}
use Rattle.ui2d.specs.declared.Vector3f.{Vector3f}
use Rattle.ui2d.specs.declared.Color4u8.{Color4u8}
use Rattle.strip_records.specs.Typed.{Below}
use Rattle.flat.specs.Words.{flag_word, color_words, colors_words, byte_at, half_at, word_at, flag_at, float_at, vector2_at, vector3_at, quadruple_at, colors_at, bytes_at}

pub flag_back : (b : Bool) → flag_of (flag_word b) ≡ b
flag_back true = refl
flag_back false = refl

module _ {w : List ℕ} {p : ℕ} (xs : List ℕ) (a : Holds w p xs) where
  -- the i-th of them
  pub nth : (i x : ℕ) → i < length xs → get_or xs i 0 ≡ x → get_or w (p + i) 0 ≡ x
  nth i x h e =
      sym (get_or-drop p w i 0)
      ∙ ap (λ (l : List ℕ). get_or l i 0) (ap (drop p) a.whole ∙ drop_at a.before (xs ++ a.after) p a.place)
      ∙ get_or-append xs a.after 0 i h
      ∙ e

  pub flag_nth : (i : ℕ) (b : Bool) → i < length xs → get_or xs i 0 ≡ flag_word b → flag_at w (p + i) ≡ b
  flag_nth i b h e = ap flag_of (nth i (flag_word b) h e) ∙ flag_back b

  pub byte_nth : (i x : ℕ) → i < length xs → get_or xs i 0 ≡ x → x < 256 → byte_at w (p + i) ≡ x
  byte_nth i x h e k = ap (λ (n : ℕ). n % 256) (nth i x h e) ∙ mod-eq_of_lt k

  pub half_nth : (i x : ℕ) → i < length xs → get_or xs i 0 ≡ x → x < 65536 → half_at w (p + i) ≡ x
  half_nth i x h e k = ap (λ (n : ℕ). n % 65536) (nth i x h e) ∙ mod-eq_of_lt k

  pub word_nth : (i x : ℕ) → i < length xs → get_or xs i 0 ≡ x → x < 4294967296 → word_at w (p + i) ≡ x
  word_nth i x h e k = ap (λ (n : ℕ). n % 4294967296) (nth i x h e) ∙ mod-eq_of_lt k

  pub float_nth : (i : ℕ) (x : Binary32) → i < length xs → get_or xs i 0 ≡ x.bits → x.bits < 4294967296 → float_at w (p + i) ≡ x
  float_nth i x h e k = ap float (word_nth i x.bits h e k)

module _ {w : List ℕ} {p : ℕ} (xs : List ℕ) (a : Holds w p xs) where
  pub horizontal_nth : (i : ℕ) (x : HorizontalPosition) → i < length xs → get_or xs i 0 ≡ horizontal_number x → horizontal_of (byte_at w (p + i)) ≡ x
  horizontal_nth i x h e = ap horizontal_of (byte_nth xs a i (horizontal_number x) h e (omega (arith, horizontal_le x))) ∙ horizontal_back x

  pub vertical_nth : (i : ℕ) (x : VerticalPosition) → i < length xs → get_or xs i 0 ≡ vertical_number x → vertical_of (byte_at w (p + i)) ≡ x
  vertical_nth i x h e = ap vertical_of (byte_nth xs a i (vertical_number x) h e (omega (arith, vertical_le x))) ∙ vertical_back x

  pub vector2_nth : (i : ℕ) (v : Vector2f) → i + 1 < length xs → get_or xs i 0 ≡ v.x.bits → get_or xs (i + 1) 0 ≡ v.y.bits → TypedVector2 v → vector2_at w (p + i) ≡ v
  vector2_nth i v h e f t =
      let g : p + (i + 1) ≡ p + i + 1 = omega arith in
      let y = subst (λ (n : ℕ). float_at w n ≡ v.y) g (float_nth xs a (i + 1) v.y h f t.y) in
      rw (float_nth xs a i v.x (omega arith) e t.x, y)

  pub vector3_nth : (i : ℕ) (v : Vector3f) → i + 2 < length xs → get_or xs i 0 ≡ v.x.bits → get_or xs (i + 1) 0 ≡ v.y.bits → get_or xs (i + 2) 0 ≡ v.z.bits → TypedVector3 v
      → vector3_at w (p + i) ≡ v
  vector3_nth i v h e f d t =
      let g₁ : p + (i + 1) ≡ p + i + 1 = omega arith in
      let g₂ : p + (i + 2) ≡ p + i + 2 = omega arith in
      let y = subst (λ (n : ℕ). float_at w n ≡ v.y) g₁ (float_nth xs a (i + 1) v.y (omega arith) f t.y) in
      let z = subst (λ (n : ℕ). float_at w n ≡ v.z) g₂ (float_nth xs a (i + 2) v.z h d t.z) in
      rw (float_nth xs a i v.x (omega arith) e t.x, y, z)

pub bytes_back : {w : List ℕ} {p : ℕ} (bs : List ℕ) → Below 256 bs → Holds w p bs → bytes_at w p (length bs) ≡ bs
unfolding bytes_at Below
bytes_back [] h a = refl
bytes_back {w} {p = p} (b ∷ bs) (h, k) a =
    let e : p + 0 ≡ p = omega arith in
    let f = subst (λ (n : ℕ). byte_at w n ≡ b) e (byte_nth (b ∷ bs) a 0 b (omega arith) refl h) in
    let (a₁, a₂) = split (b ∷ []) bs 1 refl a in
    rw (f, bytes_back {p = p + 1} bs k a₂)

pub color_back : {w : List ℕ} {p : ℕ} (v : Color4u8) → TypedColor v → Holds w p (color_words v) → quadruple_at w p ≡ v
color_back {w} {p} v t a =
    let e : p + 0 ≡ p = omega arith in
    let f = subst (λ (n : ℕ). byte_at w n ≡ v.r) e (byte_nth (color_words v) a 0 v.r (omega arith) refl t.r) in
    rw (
      f,
      byte_nth (color_words v) a 1 v.g (omega arith) refl t.g,
      byte_nth (color_words v) a 2 v.b (omega arith) refl t.b,
      byte_nth (color_words v) a 3 v.a (omega arith) refl t.a,
    )

pub colors_back : {w : List ℕ} {p : ℕ} (vs : List Color4u8) → TypedColors vs → Holds w p (colors_words vs) → colors_at w p ≡ vs
colors_back {w} {p} vs t a =
    let e₂ : p + 4 + 4 ≡ p + 8 = omega arith in
    let e₃ : p + 4 + 4 + 4 ≡ p + 12 = omega arith in
    let (a₀, r₁) = split (color_words (color_at vs 0)) (color_words (color_at vs 1) ++ (color_words (color_at vs 2) ++ color_words (color_at vs 3))) 4 refl a in
    let (a₁, r₂) = split (color_words (color_at vs 1)) (color_words (color_at vs 2) ++ color_words (color_at vs 3)) 4 refl r₁ in
    let (a₂, a₃) = split (color_words (color_at vs 2)) (color_words (color_at vs 3)) 4 refl r₂ in
    let f₂ = subst (λ (n : ℕ). quadruple_at w n ≡ color_at vs 2) e₂ (color_back (color_at vs 2) t.bottom_left a₂) in
    let f₃ = subst (λ (n : ℕ). quadruple_at w n ≡ color_at vs 3) e₃ (color_back (color_at vs 3) t.bottom_right a₃) in
    rw (color_back (color_at vs 0) t.top_left a₀, color_back (color_at vs 1) t.top_right a₁, f₂, f₃) (corners vs t.four)
