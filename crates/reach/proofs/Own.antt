-- What a picture and an alignment pane have beyond the base.
use mathlib.Core.Path.{◌≡◌, refl, sym, ap}
use Prim.Native.Nat.{ℕ, ◌*◌}
use native.Mathlib.Omega.{arith}
use mathlib.Core.Bool.{Bool, true, false, cond}
use mathlib.Core.List.{List}
use lib.ListN.{length}
use lib.Dec.{lit≤, eqb}
use Rattle.core_read.specs.Taken.{number_taken, Place}
use Rattle.core_read.specs.Lists.{numbers_taken}
use Rattle.core_read.specs.declared.cursor.ByteOrder.{ByteOrder}
use Rattle.core_read.specs.declared.cursor.Cursor.{Cursor}
use Rattle.core_read.proofs.Cursors.{advanced_zero}
use Rattle.ui2d.specs.Parts.{colors_taken}
use Rattle.alignment_fields.specs.Alignment.{alignment_taken}
use Rattle.picture_fields.specs.Picture.{shape_taken, picture_taken, quads_of}
use Rattle.reach.specs.Agrees.{Agrees}
use Rattle.reach.proofs.Steps.{Reads, Reading, Owned, told, so, on, owned, none}
use Rattle.reach.proofs.Fields.{one, two, four, numbers_went, colors_went, stood}
use Rattle.std.specs.Prelude.{Ok}

module _ (lo r : ℕ) (s s' : List ℕ) (a : Agrees lo r s s') (order : ByteOrder) where
  pub alignment_went : (body : ℕ) (p : Place) (d : Cursor) → (alignment_taken order s p).then ≡ Ok d → Owned lo r (length s) body 88 false p d (alignment_taken order s' p ≡ alignment_taken order s p)
  unfolding alignment_taken
  alignment_went body p d e =
      let p₁ : Place = (number_taken order 4 s p).then in
      let p₂ : Place = (number_taken order 4 s p₁).then in
      let p₃ : Place = (number_taken order 1 s p₂).then in
      let w₅ = two lo r s s' a order (number_taken order 1 s p₃).then d e in
      let w₄ = one lo r s s' a order p₃ w₅.from w₅.here in
      let w₃ = one lo r s s' a order p₂ w₄.from w₄.here in
      let w₂ = four lo r s s' a order p₁ w₃.from w₃.here in
      let w₁ = four lo r s s' a order p w₂.from w₂.here in
      so (owned body 88 (omega arith) (omega arith) (on w₅ (on w₄ (on w₃ (on w₂ w₁))))) (λ u. rw (u.0.0.0.0, u.0.0.0.1, u.0.0.1, u.0.1, u.1))

  -- the index is there where the byte is not 0
  abbrev shape_width : ℕ → ℕ
  shape_width byte = cond (eqb byte 0) 0 4

  shape_by : (byte : ℕ) (b : Bool) → eqb byte 0 ≡ b → (p : Place) (d : Cursor) → (shape_taken order s p byte).then ≡ Ok d
      → Reading lo r (length s) (shape_width byte) p d (shape_taken order s' p byte ≡ shape_taken order s p byte)
  unfolding shape_taken
  shape_by byte true f p d e = none _ (Reads _ (shape_width byte) d) (rw f at e) (rw f (record { reads = sym (advanced_zero d); room = λ h. absurd (omega arith) })) (rw f)
  shape_by byte false f p d e =
      let x = four lo r s s' a order p d (rw f at e) in
      so (told x (Reads _ (shape_width byte) d) (rw f x.how)) (λ u. rw (f, u))

  -- with the numbers of its quads
  pub picture_went : (body : ℕ) (p : Place) (d : Cursor) → (picture_taken order s p).then ≡ Ok d
      → Owned lo r (length s) body 96 false p d ((picture_taken order s' p ≡ picture_taken order s p) × (quads_of order s' (picture_taken order s p).value ≡ quads_of order s (picture_taken order s p).value))
  unfolding picture_taken quads_of
  picture_went body p d e =
      let p₁ : Place = (colors_taken order s p).then in
      let p₂ : Place = (number_taken order 2 s p₁).then in
      let p₃ : Place = (number_taken order 1 s p₂).then in
      let p₄ : Place = (number_taken order 1 s p₃).then in
      let n : ℕ = (number_taken order 1 s p₂).value in
      let b : ℕ = (number_taken order 1 s p₃).value in
      let p₅ : Place = (numbers_taken order 4 (8 * n) s p₄).then in
      let w₆ = shape_by b (eqb b 0) refl p₅ d e in
      let w₅ = numbers_went lo r s s' a order 4 (8 * n) (lit≤ tt) p₄ w₆.from w₆.here in
      let w₄ = one lo r s s' a order p₃ w₅.from w₅.here in
      let w₃ = one lo r s s' a order p₂ w₄.from w₄.here in
      let w₂ = two lo r s s' a order p₁ w₃.from w₃.here in
      let w₁ = colors_went lo r s s' a order p w₂.from w₂.here in
      so (owned body 96 (omega arith) (omega arith) (on w₆ (on w₅ (on w₄ (on w₃ (on w₂ w₁))))))
      (λ u. (rw (u.0.0.0.0.0, u.0.0.0.0.1, u.0.0.0.1, u.0.0.1, u.0.1, u.1), rw (quads_of, stood p₄ w₅.from w₅.here) (ap (λ t. t.value) u.0.1)))
