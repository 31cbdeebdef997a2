-- Four colours, one after the other.
use mathlib.Core.Path.{◌≡◌, refl, sym, ap, ◌∙◌, subst}
use Prim.Native.Nat.{ℕ, ◌+◌, ◌*◌}
use native.Mathlib.Omega.{arith}
use mathlib.Core.List.{List, [], ◌∷◌, ◌++◌, append-nil}
use lib.ListN.{length, length-append}
use Rattle.core_read.specs.Taken.{advanced}
use Rattle.core_read.specs.Taken.{Taken}
use Rattle.core_read.specs.declared.cursor.ByteOrder.{ByteOrder}
use Rattle.core_read.specs.declared.cursor.Cursor.{Cursor}
use Rattle.core_read.proofs.Back.{Holds, cut}
use Rattle.ui2d.specs.Parts.{colors_taken, encode_color, encode_colors}
use Rattle.ui2d.specs.Typed.{TypedColors, color_at}
use Rattle.ui2d.specs.declared.Color4u8.{Color4u8}
use Rattle.ui2d.proofs.Parts.{length_color, color_at_lem}
use Rattle.std.specs.Prelude.{Ok}

-- a list of four is its corners
pub corners : (vs : List Color4u8) → length vs ≡ 4 → color_at vs 0 ∷ color_at vs 1 ∷ color_at vs 2 ∷ color_at vs 3 ∷ [] ≡ vs
corners [] h = absurd (omega arith)
corners (a ∷ []) h = absurd (omega arith)
corners (a ∷ b ∷ []) h = absurd (omega arith)
corners (a ∷ b ∷ c ∷ []) h = absurd (omega arith)
corners (a ∷ b ∷ c ∷ d ∷ []) h = refl
corners (a ∷ b ∷ c ∷ d ∷ e ∷ r) h = absurd (omega arith)

module _ (order : ByteOrder) where
  four : (a b c d : Color4u8)
      → encode_color order a ++ (encode_color order b ++ (encode_color order c ++ encode_color order d)) ≡ encode_colors order (a ∷ b ∷ c ∷ d ∷ [])
  unfolding encode_colors
  four a b c d = simp append-nil

  -- the bytes corner by corner
  pub corner_bytes : (vs : List Color4u8) → length vs ≡ 4
      → encode_color order (color_at vs 0) ++ (encode_color order (color_at vs 1) ++ (encode_color order (color_at vs 2) ++ encode_color order (color_at vs 3)))
      ≡ encode_colors order vs
  corner_bytes vs h = four _ _ _ _ ∙ ap (encode_colors order) (corners vs h)

  length_each : (vs : List Color4u8) → length (encode_colors order vs) ≡ 4 * length vs
  unfolding encode_colors
  length_each [] = refl
  length_each (v ∷ vs) = simp (length-append, length_color, length_each vs) (omega arith)

  pub length_colors : (vs : List Color4u8) → length vs ≡ 4 → length (encode_colors order vs) ≡ 16
  length_colors vs h = length_each vs ∙ ap (λ (n : ℕ). 4 * n) h

-- read back, at an offset k of a cursor
pub colors_at : {s : List ℕ} (c : Cursor) (order : ByteOrder) (k : ℕ) (vs : List Color4u8) → TypedColors vs → Holds s (c.pos + k) (encode_colors order vs)
    → ◌≡◌ {A = Taken (List Color4u8)} (colors_taken order s (Ok (advanced c k))) (record { value = vs; then = Ok (advanced c (k + 16)) })
unfolding colors_taken
colors_at {s} c order k vs t a =
    let e : k + 4 + 4 + 4 + 4 ≡ k + 16 = omega arith in
    let h = subst (Holds s (c.pos + k)) (sym (corner_bytes order vs t.four)) a in
    let (a₁, r₁) = cut c k 4 _ _ (length_color order (color_at vs 0)) h in
    let (a₂, r₂) = cut c (k + 4) 4 _ _ (length_color order (color_at vs 1)) r₁ in
    let (a₃, a₄) = cut c (k + 4 + 4) 4 _ _ (length_color order (color_at vs 2)) r₂ in
    rw (
      color_at_lem c order k (color_at vs 0) t.top_left a₁,
      color_at_lem c order (k + 4) (color_at vs 1) t.top_right a₂,
      color_at_lem c order (k + 4 + 4) (color_at vs 2) t.bottom_left a₃,
      color_at_lem c order (k + 4 + 4 + 4) (color_at vs 3) t.bottom_right a₄,
      e,
      corners vs t.four,
    )
