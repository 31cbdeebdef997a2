-- What a window has beyond the base.
use mathlib.Core.Path.{◌≡◌, refl, ap, ◌∙◌}
use Prim.Native.Nat.{ℕ, ◌+◌, ◌-◌, ◌*◌, ◌≤◌}
use native.Mathlib.Omega.{arith}
use mathlib.Core.Bool.{true}
use mathlib.Core.List.{List, [], ◌∷◌}
use lib.ListN.{length}
use lib.Dec.{lit≤}
use Rattle.core_read.specs.Taken.{number_taken, sought, Place}
use Rattle.core_read.specs.Taken.{Taken}
use Rattle.core_read.specs.Lists.{numbers_taken}
use Rattle.core_read.specs.declared.cursor.ByteOrder.{ByteOrder}
use Rattle.core_read.specs.declared.cursor.Cursor.{Cursor}
use Rattle.ui2d.specs.Parts.{colors_taken}
use Rattle.window_head.specs.Head.{sides_taken, head_taken}
use Rattle.window_head.specs.declared.WindowHead.{WindowHead}
use Rattle.window_read.specs.Window.{content_taken, frame_taken, frames_taken, window_taken, window_quads, window_frames, window_of}
use Rattle.window_read.specs.declared.WindowContent.{WindowContent}
use Rattle.reach.specs.Agrees.{Agrees}
use Rattle.reach.proofs.Steps.{Reading, Owns, Owned, Some, told, so, on, far, past, any, none, owns_sought, seek_went}
use Rattle.reach.proofs.Fields.{one, two, four, numbers_went, colors_went, stood}
use Rattle.std.specs.Prelude.{Ok}

-- after the head the run goes home
window_ends : (body : ℕ) (c d : Cursor) → c.pos + 28 ≤ d.reach → d.pos ≡ body + 104 → Owns body 104 true d c
window_ends body c d g h = owns_sought body 104 c d (λ e. (omega (arith, g, e), omega (arith, g, e, h)))

module _ (lo r : ℕ) (s s' : List ℕ) (a : Agrees lo r s s') (order : ByteOrder) where
  sides_went : (p : Place) (d : Cursor) → (sides_taken order s p).then ≡ Ok d → Reading lo r (length s) 8 p d (sides_taken order s' p ≡ sides_taken order s p)
  unfolding sides_taken
  sides_went p d e =
      let p₁ : Place = (number_taken order 2 s p).then in
      let p₂ : Place = (number_taken order 2 s p₁).then in
      let w₄ = two lo r s s' a order (number_taken order 2 s p₂).then d e in
      let w₃ = two lo r s s' a order p₂ w₄.from w₄.here in
      let w₂ = two lo r s s' a order p₁ w₃.from w₃.here in
      let w₁ = two lo r s s' a order p w₂.from w₂.here in
      so (on w₄ (on w₃ (on w₂ w₁))) (λ u. rw (u.0.0.0, u.0.0.1, u.0.1, u.1))

  head_went : (p : Place) (d : Cursor) → (head_taken order s p).then ≡ Ok d → Reading lo r (length s) 28 p d (head_taken order s' p ≡ head_taken order s p)
  unfolding head_taken
  head_went p d e =
      let p₁ : Place = (sides_taken order s p).then in
      let p₂ : Place = (sides_taken order s p₁).then in
      let p₃ : Place = (number_taken order 1 s p₂).then in
      let p₄ : Place = (number_taken order 1 s p₃).then in
      let p₅ : Place = (number_taken order 2 s p₄).then in
      let w₇ = four lo r s s' a order (number_taken order 4 s p₅).then d e in
      let w₆ = four lo r s s' a order p₅ w₇.from w₇.here in
      let w₅ = two lo r s s' a order p₄ w₆.from w₆.here in
      let w₄ = one lo r s s' a order p₃ w₅.from w₅.here in
      let w₃ = one lo r s s' a order p₂ w₄.from w₄.here in
      let w₂ = sides_went p₁ w₃.from w₃.here in
      let w₁ = sides_went p w₂.from w₂.here in
      so (on w₇ (on w₆ (on w₅ (on w₄ (on w₃ (on w₂ w₁))))))
      (λ u. rw (u.0.0.0.0.0.0, u.0.0.0.0.0.1, u.0.0.0.0.1, u.0.0.0.1, u.0.0.1, u.0.1, u.1))

  content_went : (p : Place) (d : Cursor) → (content_taken order s p).then ≡ Ok d → Reading lo r (length s) 20 p d (content_taken order s' p ≡ content_taken order s p)
  unfolding content_taken
  content_went p d e =
      let p₁ : Place = (colors_taken order s p).then in
      let p₂ : Place = (number_taken order 2 s p₁).then in
      let w₄ = one lo r s s' a order (number_taken order 1 s p₂).then d e in
      let w₃ = one lo r s s' a order p₂ w₄.from w₄.here in
      let w₂ = two lo r s s' a order p₁ w₃.from w₃.here in
      let w₁ = colors_went lo r s s' a order p w₂.from w₂.here in
      so (on w₄ (on w₃ (on w₂ w₁))) (λ u. rw (u.0.0.0, u.0.0.1, u.0.1, u.1))

  frame_went : (p : Place) (d : Cursor) → (frame_taken order s p).then ≡ Ok d → Reading lo r (length s) 4 p d (frame_taken order s' p ≡ frame_taken order s p)
  unfolding frame_taken
  frame_went p d e =
      let p₁ : Place = (number_taken order 2 s p).then in
      let w₃ = one lo r s s' a order (number_taken order 1 s p₁).then d e in
      let w₂ = one lo r s s' a order p₁ w₃.from w₃.here in
      let w₁ = two lo r s s' a order p w₂.from w₂.here in
      so (on w₃ (on w₂ w₁)) (λ u. rw (u.0.0, u.0.1, u.1))

  frames_went : (at : ℕ) → lo ≤ at → (offsets : List ℕ) (p : Place) (d : Cursor) → (frames_taken order s at offsets p).then ≡ Ok d
      → Some lo r (length s) p d (frames_taken order s' at offsets p ≡ frames_taken order s at offsets p)
  unfolding frames_taken
  frames_went at l [] p d e = none _ (λ (c : Cursor). Unit {0}) e tt refl
  frames_went at l (o ∷ offsets) p d e =
      let q : Place = sought s p (at + o) in
      let w₃ = frames_went at l offsets (frame_taken order s q).then d e in
      let w₂ = frame_went q w₃.from w₃.here in
      let w₁ = seek_went lo r s s' a (at + o) (omega arith) p w₂.from w₂.here in
      so (any w₃ (any w₂ w₁)) (λ u. rw (u.0.0, u.0.1, u.1))

  -- with the numbers of its lists
  pub window_went : (body : ℕ) → lo ≤ body - 8 → (p : Place) (d : Cursor) → (window_taken order s p body).then ≡ Ok d
      → Owned lo r (length s) body 104 true p d
      ((window_taken order s' p body ≡ window_taken order s p body)
      × (window_quads order s' (window_taken order s p body).value ≡ window_quads order s (window_taken order s p body).value)
      × (window_frames order s' (window_taken order s p body).value body ≡ window_frames order s (window_taken order s p body).value body))
  unfolding window_taken window_quads window_frames window_of
  window_went body l p d e =
      let h : WindowHead = (head_taken order s p).value in
      let p₁ : Place = (head_taken order s p).then in
      let p₂ : Place = sought s p₁ (body - 8 + h.content_offset) in
      let c : WindowContent = (content_taken order s p₂).value in
      let p₃ : Place = (content_taken order s p₂).then in
      let p₄ : Place = (numbers_taken order 4 (8 * c.quad_count) s p₃).then in
      let p₅ : Place = sought s p₄ (body - 8 + h.table_offset) in
      let t : List ℕ = (numbers_taken order 4 h.frame_count s p₅).value in
      let p₆ : Place = (numbers_taken order 4 h.frame_count s p₅).then in
      let w₈ = seek_went lo r s s' a (body + 104) (omega arith) (frames_taken order s (body - 8) t p₆).then d e in
      let w₇ = frames_went (body - 8) l t p₆ w₈.from w₈.here in
      let w₆ = numbers_went lo r s s' a order 4 h.frame_count (lit≤ tt) p₅ w₇.from w₇.here in
      let w₅ = seek_went lo r s s' a (body - 8 + h.table_offset) (omega arith) p₄ w₆.from w₆.here in
      let w₄ = numbers_went lo r s s' a order 4 (8 * c.quad_count) (lit≤ tt) p₃ w₅.from w₅.here in
      let w₃ = content_went p₂ w₄.from w₄.here in
      let w₂ = seek_went lo r s s' a (body - 8 + h.content_offset) (omega arith) p₁ w₃.from w₃.here in
      let w₁ = head_went p w₂.from w₂.here in
      let z = past w₈ (past w₇ (past w₆ (past w₅ (past w₄ (past w₃ (past w₂ (far (lit≤ tt) w₁))))))) in
      let ends = window_ends body z.from d z.how.covers w₈.how.0 in
      so (told z (Owns body 104 true d) ends)
      (λ u. (
        rw (u.0.0.0.0.0.0.0, u.0.0.0.0.0.0.1, u.0.0.0.0.0.1, u.0.0.0.0.1, u.0.0.0.1, u.0.0.1, u.0.1, u.1),
        rw (window_quads, stood p₃ w₄.from w₄.here) (ap (λ x. x.value) u.0.0.0.0.1),
        rw (window_frames, stood p₅ w₆.from w₆.here)
            (ap (λ (x : Taken (List ℕ)). (frames_taken order s' (body - 8) x.value x.then).value) u.0.0.1 ∙ ap (λ x. x.value) u.0.1),
      ))
