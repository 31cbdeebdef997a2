-- The base.
use mathlib.Core.Path.{◌≡◌}
use Prim.Native.Nat.{ℕ, ◌<◌}
use native.Mathlib.Omega.{arith}
use mathlib.Core.List.{List}
use lib.ListN.{length}
use lib.Dec.{lit≤}
use Rattle.core_read.specs.Taken.{number_taken, fixed_string_taken, Place}
use Rattle.core_read.specs.declared.cursor.ByteOrder.{ByteOrder}
use Rattle.core_read.specs.declared.cursor.Cursor.{Cursor}
use Rattle.ui2d.specs.Parts.{vector2_taken, vector3_taken}
use Rattle.pane_read.specs.Pane.{pane_taken}
use Rattle.reach.specs.Agrees.{Agrees}
use Rattle.reach.proofs.Steps.{Reading, so, on, string_went}
use Rattle.reach.proofs.Fields.{one, vector2_went, vector3_went}
use Rattle.std.specs.Prelude.{Ok}

module _ (lo r : ℕ) (s s' : List ℕ) (a : Agrees lo r s s') (order : ByteOrder) where
  fixed_went : (n : ℕ) → 0 < n → (p : Place) (d : Cursor) → (fixed_string_taken n s p).then ≡ Ok d → d.pos < length s
      → Reading lo r (length s) n p d (fixed_string_taken n s' p ≡ fixed_string_taken n s p)
  unfolding fixed_string_taken
  fixed_went n z p d e k = so (string_went lo r s s' a n z p d e k) (λ u. rw u)

  pub pane_went : (p : Place) (d : Cursor) → (pane_taken order s p).then ≡ Ok d → Reading lo r (length s) 76 p d (pane_taken order s' p ≡ pane_taken order s p)
  unfolding pane_taken
  pane_went p d e =
      let p₁ : Place = (number_taken order 1 s p).then in
      let p₂ : Place = (number_taken order 1 s p₁).then in
      let p₃ : Place = (number_taken order 1 s p₂).then in
      let p₄ : Place = (number_taken order 1 s p₃).then in
      let p₅ : Place = (fixed_string_taken 24 s p₄).then in
      let p₆ : Place = (fixed_string_taken 8 s p₅).then in
      let p₇ : Place = (vector3_taken order s p₆).then in
      let p₈ : Place = (vector3_taken order s p₇).then in
      let w₁₀ = vector2_went lo r s s' a order (vector2_taken order s p₈).then d e in
      let w₉ = vector2_went lo r s s' a order p₈ w₁₀.from w₁₀.here in
      let w₈ = vector3_went lo r s s' a order p₇ w₉.from w₉.here in
      let w₇ = vector3_went lo r s s' a order p₆ w₈.from w₈.here in
      let r₇ : w₇.from.pos < length s = omega (arith, w₇.how.room (lit≤ tt)) in
      let w₆ = fixed_went 8 (lit≤ tt) p₅ w₇.from w₇.here r₇ in
      let r₆ : w₆.from.pos < length s = omega (arith, w₆.how.room (lit≤ tt)) in
      let w₅ = fixed_went 24 (lit≤ tt) p₄ w₆.from w₆.here r₆ in
      let w₄ = one lo r s s' a order p₃ w₅.from w₅.here in
      let w₃ = one lo r s s' a order p₂ w₄.from w₄.here in
      let w₂ = one lo r s s' a order p₁ w₃.from w₃.here in
      let w₁ = one lo r s s' a order p w₂.from w₂.here in
      so (on w₁₀ (on w₉ (on w₈ (on w₇ (on w₆ (on w₅ (on w₄ (on w₃ (on w₂ w₁))))))))) (λ u.
      rw (
        u.0.0.0.0.0.0.0.0.0,
        u.0.0.0.0.0.0.0.0.1,
        u.0.0.0.0.0.0.0.1,
        u.0.0.0.0.0.0.1,
        u.0.0.0.0.0.1,
        u.0.0.0.0.1,
        u.0.0.0.1,
        u.0.0.1,
        u.0.1,
        u.1,
      ))
