-- What a text box has beyond the base.
use mathlib.Core.Path.{◌≡◌, refl, ap, ◌∙◌}
use Prim.Native.Nat.{ℕ, ◌+◌, ◌-◌, ◌*◌, ◌/◌, ◌≤◌}
use native.Mathlib.Omega.{arith}
use mathlib.Core.Bool.{Bool, true, false, not, ◌&&◌}
use mathlib.Core.List.{List}
use lib.ListN.{length}
use lib.Dec.{lit≤, eqb}
use Rattle.core_read.specs.Taken.{number_taken, sought, Place}
use Rattle.core_read.specs.Lists.{numbers_taken, numbers_at}
use Rattle.core_read.specs.declared.cursor.ByteOrder.{ByteOrder}
use Rattle.core_read.specs.declared.cursor.Cursor.{Cursor}
use Rattle.core_read.proofs.Cursors.{pos_advanced}
use Rattle.picture.proofs.Came.{number_end}
use Rattle.ui2d.specs.Parts.{color_taken, vector2_taken}
use Rattle.text_box_fixed.specs.Fixed.{head_taken, font_taken, shadow_taken}
use Rattle.text_box_parts.specs.Parts.{place_of, text_at, text_taken, lines_at, lines_taken, units_of, lines_of}
use Rattle.reach.specs.Agrees.{Agrees}
use Rattle.reach.proofs.Steps.{Reading, Home, so, after, on, any, none, seek_went}
use Rattle.reach.proofs.Fields.{one, two, four, numbers_went, color_went, vector2_went, room_after, stand_same}
use Rattle.std.specs.Prelude.{Ok}

module _ (lo r : ℕ) (s s' : List ℕ) (a : Agrees lo r s s') (order : ByteOrder) where
  pub head_went : (p : Place) (d : Cursor) → (head_taken order s p).then ≡ Ok d → Reading lo r (length s) 16 p d (head_taken order s' p ≡ head_taken order s p)
  unfolding head_taken
  head_went p d e =
      let p₁ : Place = (number_taken order 2 s p).then in
      let p₂ : Place = (number_taken order 2 s p₁).then in
      let p₃ : Place = (number_taken order 2 s p₂).then in
      let p₄ : Place = (number_taken order 2 s p₃).then in
      let p₅ : Place = (number_taken order 1 s p₄).then in
      let p₆ : Place = (number_taken order 1 s p₅).then in
      let w₈ = four lo r s s' a order (number_taken order 2 s p₆).then d e in
      let w₇ = two lo r s s' a order p₆ w₈.from w₈.here in
      let w₆ = one lo r s s' a order p₅ w₇.from w₇.here in
      let w₅ = one lo r s s' a order p₄ w₆.from w₆.here in
      let w₄ = two lo r s s' a order p₃ w₅.from w₅.here in
      let w₃ = two lo r s s' a order p₂ w₄.from w₄.here in
      let w₂ = two lo r s s' a order p₁ w₃.from w₃.here in
      let w₁ = two lo r s s' a order p w₂.from w₂.here in
      so (on w₈ (on w₇ (on w₆ (on w₅ (on w₄ (on w₃ (on w₂ w₁)))))))
      (λ u. rw (u.0.0.0.0.0.0.0, u.0.0.0.0.0.0.1, u.0.0.0.0.0.1, u.0.0.0.0.1, u.0.0.0.1, u.0.0.1, u.0.1, u.1))

  pub font_went : (p : Place) (d : Cursor) → (font_taken order s p).then ≡ Ok d → Reading lo r (length s) 32 p d (font_taken order s' p ≡ font_taken order s p)
  unfolding font_taken
  font_went p d e =
      let p₁ : Place = (number_taken order 4 s p).then in
      let p₂ : Place = (color_taken order s p₁).then in
      let p₃ : Place = (color_taken order s p₂).then in
      let p₄ : Place = (vector2_taken order s p₃).then in
      let p₅ : Place = (number_taken order 4 s p₄).then in
      let w₇ = four lo r s s' a order (number_taken order 4 s p₅).then d e in
      let w₆ = four lo r s s' a order p₅ w₇.from w₇.here in
      let w₅ = four lo r s s' a order p₄ w₆.from w₆.here in
      let w₄ = vector2_went lo r s s' a order p₃ w₅.from w₅.here in
      let w₃ = color_went lo r s s' a order p₂ w₄.from w₄.here in
      let w₂ = color_went lo r s s' a order p₁ w₃.from w₃.here in
      let w₁ = four lo r s s' a order p w₂.from w₂.here in
      so (on w₇ (on w₆ (on w₅ (on w₄ (on w₃ (on w₂ w₁))))))
      (λ u. rw (u.0.0.0.0.0.0, u.0.0.0.0.0.1, u.0.0.0.0.1, u.0.0.0.1, u.0.0.1, u.0.1, u.1))

  pub shadow_went : (p : Place) (d : Cursor) → (shadow_taken order s p).then ≡ Ok d → Reading lo r (length s) 36 p d (shadow_taken order s' p ≡ shadow_taken order s p)
  unfolding shadow_taken
  shadow_went p d e =
      let p₁ : Place = (vector2_taken order s p).then in
      let p₂ : Place = (vector2_taken order s p₁).then in
      let p₃ : Place = (color_taken order s p₂).then in
      let p₄ : Place = (color_taken order s p₃).then in
      let p₅ : Place = (number_taken order 4 s p₄).then in
      let w₇ = four lo r s s' a order (number_taken order 4 s p₅).then d e in
      let w₆ = four lo r s s' a order p₅ w₇.from w₇.here in
      let w₅ = four lo r s s' a order p₄ w₆.from w₆.here in
      let w₄ = color_went lo r s s' a order p₃ w₅.from w₅.here in
      let w₃ = color_went lo r s s' a order p₂ w₄.from w₄.here in
      let w₂ = vector2_went lo r s s' a order p₁ w₃.from w₃.here in
      let w₁ = vector2_went lo r s s' a order p w₂.from w₂.here in
      so (on w₇ (on w₆ (on w₅ (on w₄ (on w₃ (on w₂ w₁))))))
      (λ u. rw (u.0.0.0.0.0.0, u.0.0.0.0.0.1, u.0.0.0.0.1, u.0.0.0.1, u.0.0.1, u.0.1, u.1))

  -- ---- the parts: each is absent, or sought, read and left for the end of the fixed bytes

  -- with the units
  pub text_by : (body offset long : ℕ) → lo ≤ body - 8 → (b : Bool) → eqb offset 0 ≡ b → (p : Place) (d : Cursor) → (text_taken order s p body offset long).then ≡ Ok d
      → Home lo r (length s) (body + 160) p d ((text_taken order s' p body offset long ≡ text_taken order s p body offset long)
      × (units_of (text_taken order s p body offset long).value.text (numbers_at order 2 (long / 2) s' (text_taken order s p body offset long).value.place)
      ≡ units_of (text_taken order s p body offset long).value.text (numbers_at order 2 (long / 2) s (text_taken order s p body offset long).value.place)))
  unfolding text_taken text_at
  text_by body offset long l true f p d e = none _ (λ (c : Cursor). c.pos ≡ body + 160 → d.pos ≡ body + 160) (rw f at e) (λ k. k) (rw f (refl, refl))
  text_by body offset long l false f p d e =
      let to : ℕ = place_of body offset in
      let q : Place = sought s p to in
      let w₃ = seek_went lo r s s' a (body + 160) (omega arith) (numbers_taken order 2 (long / 2) s q).then d (rw f at e) in
      let w₂ = numbers_went lo r s s' a order 2 (long / 2) (lit≤ tt) q w₃.from w₃.here in
      let w₁ = seek_went lo r s s' a to (omega arith) p w₂.from w₂.here in
      so (after w₃ (any w₂ w₁) (λ (c : Cursor). c.pos ≡ body + 160 → d.pos ≡ body + 160) (λ k. w₃.how.0)) (λ u. (
        rw (f, u.0.0, u.0.1, u.1),
        rw (f, stand_same lo r s s' a order 2 (long / 2) q w₂.from w₃.from to w₂.here w₁.how.0 w₁.how.1 w₃.here u.0.1),
      ))

  -- with the offsets and widths
  pub lines_by : (body offset : ℕ) (line : Bool) → lo ≤ body - 8 → (b : Bool) → (line && not (eqb offset 0)) ≡ b → (p : Place) (d : Cursor) → (lines_taken order s p body line offset).then ≡ Ok d
      → Home lo r (length s) (body + 160) p d ((lines_taken order s' p body line offset ≡ lines_taken order s p body line offset)
      × (lines_of order s' (lines_taken order s p body line offset).value.table (lines_taken order s p body line offset).value.place
      ≡ lines_of order s (lines_taken order s p body line offset).value.table (lines_taken order s p body line offset).value.place))
  unfolding lines_taken lines_at
  lines_by body offset line l false f p d e = none _ (λ (c : Cursor). c.pos ≡ body + 160 → d.pos ≡ body + 160) (rw f at e) (λ k. k) (rw f (refl, refl))
  lines_by body offset line l true f p d e =
      let to : ℕ = place_of body offset in
      let p₁ : Place = sought s p to in
      let n : ℕ = (number_taken order 1 s p₁).value in
      let p₂ : Place = (number_taken order 1 s p₁).then in
      let p₃ : Place = (numbers_taken order 4 n s p₂).then in
      let w₅ = seek_went lo r s s' a (body + 160) (omega arith) (numbers_taken order 4 n s p₃).then d (rw f at e) in
      let w₄ = numbers_went lo r s s' a order 4 n (lit≤ tt) p₃ w₅.from w₅.here in
      let w₃ = numbers_went lo r s s' a order 4 n (lit≤ tt) p₂ w₄.from w₄.here in
      let w₂ = one lo r s s' a order p₁ w₃.from w₃.here in
      let w₁ = seek_went lo r s s' a to (omega arith) p w₂.from w₂.here in
      let e₂ : w₃.from.pos ≡ to + 1 = ap (λ (c : Cursor). c.pos) w₂.how.reads ∙ pos_advanced w₂.from 1 ∙ ap (λ (k : ℕ). k + 1) w₁.how.0 in
      let r₂ : to + 1 ≤ length s = omega (arith, e₂, number_end order 1 s p₁ w₃.from w₃.here) in
      let e₃ : w₄.from.pos ≡ to + 1 + 4 * n = ap (λ (c : Cursor). c.pos) w₃.how.reads ∙ pos_advanced w₃.from (4 * n) ∙ ap (λ (k : ℕ). k + 4 * n) e₂ in
      let r₃ : to + 1 + 4 * n ≤ length s = omega (arith, e₂, room_after lo r s s' a order 4 n p₂ w₃.from w₄.from w₃.here (omega (arith, e₂, r₂)) w₄.here) in
      so (after w₅ (any w₄ (any w₃ (any w₂ w₁))) (λ (c : Cursor). c.pos ≡ body + 160 → d.pos ≡ body + 160) (λ k. w₅.how.0)) (λ u. (
        rw (f, u.0.0.0.0, u.0.0.0.1, u.0.0.1, u.0.1, u.1),
        rw (
          f,
          stand_same lo r s s' a order 4 n p₂ w₃.from w₄.from (to + 1) w₃.here e₂ r₂ w₄.here u.0.0.1,
          stand_same lo r s s' a order 4 n p₃ w₄.from w₅.from (to + 1 + 4 * n) w₄.here e₃ r₃ w₅.here u.0.1,
        ),
      ))
