-- Fields that are several numbers.
use mathlib.Core.Path.{◌≡◌, refl, sym, ap, subst, ◌∙◌}
use Prim.Native.Nat.{ℕ, zero, suc, ◌+◌, ◌*◌, ◌≤◌, ◌<◌}
use native.Mathlib.Nat.{mul-zero, mul-suc}
use native.Mathlib.Omega.{arith}
use mathlib.Core.List.{List}
use lib.ListN.{length}
use lib.Dec.{lit≤}
use Rattle.core_read.specs.Taken.{cursor_of, number_taken, Place}
use Rattle.core_read.specs.Taken.{Taken}
use Rattle.core_read.specs.Lists.{numbers_taken, numbers_at}
use Rattle.core_read.specs.declared.cursor.ByteOrder.{ByteOrder}
use Rattle.core_read.specs.declared.cursor.Cursor.{Cursor}
use Rattle.core_read.proofs.Cursors.{advanced_zero}
use Rattle.core_read.proofs.Lists.{numbers_here}
use Rattle.ui2d.specs.Parts.{vector2_taken, vector3_taken, color_taken, colors_taken}
use Rattle.picture.proofs.Came.{numbers_fit}
use Rattle.reach.specs.Agrees.{Agrees}
use Rattle.reach.proofs.Steps.{Reads, Reading, told, so, on, none, number_went}
use Rattle.std.specs.Prelude.{Err, Ok}

-- the cursor of a place that has one
pub stood : (q : Place) (c : Cursor) → q ≡ Ok c → ◌≡◌ {A = Place} (Ok (cursor_of q)) q
stood (Ok d) c e = refl
stood (Err why) c e = cc

module _ (lo r : ℕ) (s s' : List ℕ) (a : Agrees lo r s s') (order : ByteOrder) where
  pub numbers_went : (w n : ℕ) → 0 < w → (p : Place) (d : Cursor) → (numbers_taken order w n s p).then ≡ Ok d
      → Reading lo r (length s) (w * n) p d (numbers_taken order w n s' p ≡ numbers_taken order w n s p)
  unfolding numbers_taken
  numbers_went w zero h p d e = none _ (Reads _ (w * 0) d) e (record { reads = rw (mul-zero w) (sym (advanced_zero d)); room = λ h. absurd (omega (arith, mul-zero w)) }) refl
  numbers_went w (suc n) h p d e =
      let y = numbers_went w n h (number_taken order w s p).then d e in
      let x = number_went lo r s s' a order w h p y.from y.here in
      let z = on y x in
      let m : w + w * n ≡ w * suc n = omega (arith, mul-suc w n) in
      so (told z (Reads _ (w * suc n) d) (subst (λ (k : ℕ). Reads (length s) k d z.from) m z.how)) (λ u. rw (u.0, u.1))

  -- a number of 1, 2 or 4 bytes
  pub one : (p : Place) (d : Cursor) → (number_taken order 1 s p).then ≡ Ok d → Reading lo r (length s) 1 p d (number_taken order 1 s' p ≡ number_taken order 1 s p)
  one p d e = number_went lo r s s' a order 1 (lit≤ tt) p d e

  pub two : (p : Place) (d : Cursor) → (number_taken order 2 s p).then ≡ Ok d → Reading lo r (length s) 2 p d (number_taken order 2 s' p ≡ number_taken order 2 s p)
  two p d e = number_went lo r s s' a order 2 (lit≤ tt) p d e

  pub four : (p : Place) (d : Cursor) → (number_taken order 4 s p).then ≡ Ok d → Reading lo r (length s) 4 p d (number_taken order 4 s' p ≡ number_taken order 4 s p)
  four p d e = number_went lo r s s' a order 4 (lit≤ tt) p d e

  pub vector2_went : (p : Place) (d : Cursor) → (vector2_taken order s p).then ≡ Ok d → Reading lo r (length s) 8 p d (vector2_taken order s' p ≡ vector2_taken order s p)
  unfolding vector2_taken
  vector2_went p d e =
      let y = four (number_taken order 4 s p).then d e in
      let x = four p y.from y.here in
      so (on y x) (λ u. rw (u.0, u.1))

  pub vector3_went : (p : Place) (d : Cursor) → (vector3_taken order s p).then ≡ Ok d → Reading lo r (length s) 12 p d (vector3_taken order s' p ≡ vector3_taken order s p)
  unfolding vector3_taken
  vector3_went p d e =
      let q : Place = (number_taken order 4 s p).then in
      let z = four (number_taken order 4 s q).then d e in
      let y = four q z.from z.here in
      let x = four p y.from y.here in
      so (on z (on y x)) (λ u. rw (u.0.0, u.0.1, u.1))

  pub color_went : (p : Place) (d : Cursor) → (color_taken order s p).then ≡ Ok d → Reading lo r (length s) 4 p d (color_taken order s' p ≡ color_taken order s p)
  unfolding color_taken
  color_went p d e =
      let p₁ : Place = (number_taken order 1 s p).then in
      let p₂ : Place = (number_taken order 1 s p₁).then in
      let t = one (number_taken order 1 s p₂).then d e in
      let z = one p₂ t.from t.here in
      let y = one p₁ z.from z.here in
      let x = one p y.from y.here in
      so (on t (on z (on y x))) (λ u. rw (u.0.0.0, u.0.0.1, u.0.1, u.1))

  pub colors_went : (p : Place) (d : Cursor) → (colors_taken order s p).then ≡ Ok d → Reading lo r (length s) 16 p d (colors_taken order s' p ≡ colors_taken order s p)
  unfolding colors_taken
  colors_went p d e =
      let p₁ : Place = (color_taken order s p).then in
      let p₂ : Place = (color_taken order s p₁).then in
      let t = color_went (color_taken order s p₂).then d e in
      let z = color_went p₂ t.from t.here in
      let y = color_went p₁ z.from z.here in
      let x = color_went p y.from y.here in
      so (on t (on z (on y x))) (λ u. rw (u.0.0.0, u.0.0.1, u.0.1, u.1))

  -- ---- numbers by their place, where they were read

  pub room_after : (w n : ℕ) (q : Place) (c d : Cursor) → q ≡ Ok c → c.pos ≤ length s → (numbers_taken order w n s q).then ≡ Ok d → c.pos + w * n ≤ length s
  room_after w n q c d e h k = numbers_fit order w s n c d h (rw e at k)

  pub stand_same : (w n : ℕ) (q : Place) (c d : Cursor) (to : ℕ) → q ≡ Ok c → c.pos ≡ to → to ≤ length s → (numbers_taken order w n s q).then ≡ Ok d
      → numbers_taken order w n s' q ≡ numbers_taken order w n s q → numbers_at order w n s' to ≡ numbers_at order w n s to
  stand_same w n q c d to e f h k u =
      let l : c.pos + w * n ≤ length s = room_after w n q c d e (omega (arith, f, h)) k in
      let v : numbers_taken order w n s' (Ok c) ≡ numbers_taken order w n s (Ok c) = rw e at u in
      rw (← f)
      (sym (ap (λ (t : Taken (List ℕ)). t.value) (numbers_here order w s' n c (omega (arith, l, a.long))))
      ∙ ap (λ (t : Taken (List ℕ)). t.value) v
      ∙ ap (λ (t : Taken (List ℕ)). t.value) (numbers_here order w s n c l))
