-- A frame that runs out, and the frames after it, which a refused run reads as zeros.
use mathlib.Core.Path.{◌≡◌, refl, sym, ap, ◌∙◌}
use mathlib.Core.Bool.{Bool, true, false, cond}
use mathlib.Core.List.{List, [], ◌∷◌}
use Prim.Native.Nat.{ℕ, zero, suc, ◌+◌, ◌*◌, ◌≤◌, ◌<◌}
use native.Mathlib.Omega.{arith}
use lib.Dec.{leb}
use lib.ListN.{length, replicate}
use Rattle.std.proofs.lemmas.Bool.{leb-true, leb-false, le-leb}
use Rattle.core_read.specs.Bytes.{number_at}
use Rattle.core_read.specs.Taken.{advanced, moved, sought, number_taken, Place}
use Rattle.core_read.specs.Taken.{Taken}
use Rattle.core_read.specs.Lists.{numbers_taken}
use Rattle.core_read.specs.declared.error.Refusal.{Refusal}
use Rattle.core_read.specs.declared.error.Refusal.TheVariants.{UnexpectedEof}
use Rattle.core_read.specs.declared.cursor.ByteOrder.{ByteOrder}
use Rattle.core_read.specs.declared.cursor.Cursor.{Cursor}
use Rattle.core_read.proofs.Cursors.{pos_moved, pos_advanced}
use Rattle.core_read.proofs.Runs.{seek_got, seek_beyond, short, stays}
use Rattle.core_read.proofs.Lists.{number_here, numbers_stay}
use Rattle.flags.specs.Enums.{flip_of}
use Rattle.window_read.specs.Window.{frame_taken, frames_taken}
use Rattle.window_read.specs.declared.WindowFrame.{WindowFrame}
use Rattle.std.specs.Prelude.{Err, Ok}

-- what is there of a frame at a place, with 0 for a number that runs out
unfoldable pub frame_part : ByteOrder → List ℕ → ℕ → WindowFrame
frame_part order s at = record {
  material_index = cond (leb (at + 2) (length s)) (number_at order 2 s at) 0;
  texture_flip_mode = flip_of (cond (leb (at + 3) (length s)) (number_at order 1 s (at + 2)) 0);
}

-- a run that was refused
pub record Refused (p : Place) : Type 0 where
  pub why : Refusal
  pub is : p ≡ Err why

-- a step over a frame: what it read, and that it is refused where the frame runs out
pub record Parted (s : List ℕ) (at : ℕ) (t : Taken WindowFrame) (f : WindowFrame) : Type 0 where
  pub value : t.value ≡ f
  pub stops : length s < at + 4 → Refused t.then

module _ (order : ByteOrder) (s : List ℕ) where
  -- a number that is there, and one that runs out, at a place
  there : (w : ℕ) (c : Cursor) (at : ℕ) → c.pos ≡ at → at + w ≤ length s
      → ◌≡◌ {A = Taken ℕ} (number_taken order w s (Ok c)) (record { value = number_at order w s at; then = Ok (advanced c w) })
  there w c at e h = rw (← e) (number_here order w s c (omega (arith, e)))

  lacks : (w : ℕ) (c : Cursor) (at : ℕ) → c.pos ≡ at → length s < at + w
      → ◌≡◌ {A = Taken ℕ} (number_taken order w s (Ok c)) (record { value = 0; then = Err (UnexpectedEof c.pos w) })
  lacks w c at e h = sym (short order w s (Ok c) c refl (omega (arith, e)))

  no_more : (w : ℕ) (why : Refusal) → ◌≡◌ {A = Taken ℕ} (number_taken order w s (Err why)) (record { value = 0; then = Err why })
  no_more w why = sym (stays order w s (Err why) why refl)

  module _ (at : ℕ) where
    -- a frame by its numbers
    parted : (p : Place) (material flip : Taken ℕ) (m f : ℕ) → number_taken order 2 s p ≡ material → number_taken order 1 s material.then ≡ flip
        → material.value ≡ m → flip.value ≡ f → (length s < at + 4 → Refused (number_taken order 1 s flip.then).then)
        → Parted s at (frame_taken order s p) (record { material_index = m; texture_flip_mode = flip_of f })
    unfolding frame_taken
    parted p material flip m f e₁ e₂ e₃ e₄ h = record { value = rw (e₁, e₂, e₃, e₄) refl; stops = rw (e₁, e₂) h }

    parted_by : (c : Cursor) (t₃ t₂ t₀ : Bool) → leb (at + 3) (length s) ≡ t₃ → leb (at + 2) (length s) ≡ t₂ → leb at (length s) ≡ t₀
        → Parted s at (frame_taken order s (sought s (Ok c) at)) (frame_part order s at)
    unfolding frame_part
    parted_by c true t₂ t₀ h₃ h₂ h₀ =
        let room : at + 3 ≤ length s = leb-true (at + 3) (length s) h₃ in
        let e₂ : (advanced (moved c at) 2).pos ≡ at + 2 = rw (pos_advanced, pos_moved) refl in
        let e₃ : (advanced (advanced (moved c at) 2) 1).pos ≡ at + 3 = omega (arith, pos_advanced (advanced (moved c at) 2) 1, e₂) in
        rw (← seek_got s (Ok c) at c refl (omega arith))
        (parted (Ok (moved c at)) _ _ _ _ (there 2 (moved c at) at (pos_moved c at) (omega arith)) (there 1 (advanced (moved c at) 2) (at + 2) e₂ (omega arith))
        (rw (le-leb (at + 2) (length s) (omega arith)) refl) (rw h₃ refl)
        (λ h. record { why = _; is = ap (λ (t : Taken ℕ). t.then) (lacks 1 (advanced (advanced (moved c at) 2) 1) (at + 3) e₃ (omega arith)) }))
    parted_by c false true t₀ h₃ h₂ h₀ =
        let room : at + 2 ≤ length s = leb-true (at + 2) (length s) h₂ in
        let lack : length s < at + 3 = leb-false (at + 3) (length s) h₃ in
        let e₂ : (advanced (moved c at) 2).pos ≡ at + 2 = rw (pos_advanced, pos_moved) refl in
        rw (← seek_got s (Ok c) at c refl (omega arith))
        (parted (Ok (moved c at)) _ _ _ _ (there 2 (moved c at) at (pos_moved c at) room) (lacks 1 (advanced (moved c at) 2) (at + 2) e₂ (omega arith))
        (rw h₂ refl) (rw h₃ refl) (λ h. record { why = _; is = ap (λ (t : Taken ℕ). t.then) (no_more 1 _) }))
    parted_by c false false true h₃ h₂ h₀ =
        let room : at ≤ length s = leb-true at (length s) h₀ in
        let lack : length s < at + 2 = leb-false (at + 2) (length s) h₂ in
        rw (← seek_got s (Ok c) at c refl room)
        (parted (Ok (moved c at)) _ _ _ _ (lacks 2 (moved c at) at (pos_moved c at) lack) (no_more 1 _)
        (rw h₂ refl) (rw h₃ refl) (λ h. record { why = _; is = ap (λ (t : Taken ℕ). t.then) (no_more 1 _) }))
    parted_by c false false false h₃ h₂ h₀ =
        let lack : length s < at = leb-false at (length s) h₀ in
        rw (← seek_beyond s (Ok c) at c refl lack)
        (parted (Err _) _ _ _ _ (no_more 2 _) (no_more 1 _)
        (rw h₂ refl) (rw h₃ refl) (λ h. record { why = _; is = ap (λ (t : Taken ℕ). t.then) (no_more 1 _) }))

    pub frame_parted : (c : Cursor) → Parted s at (frame_taken order s (sought s (Ok c) at)) (frame_part order s at)
    frame_parted c = parted_by c _ _ _ refl refl refl

  -- ---- the frames of a refused run

  pub frames_blank : (from : ℕ) (l : List ℕ) (why : Refusal) → (frames_taken order s from l (Err why)).value ≡ replicate (2 * length l) 0
  unfolding frames_taken sought frame_taken number_taken
  frames_blank from [] why = refl
  frames_blank from (offset ∷ l) why =
      let e : 2 * suc (length l) ≡ suc (suc (2 * length l)) = omega arith in
      rw e (ap (λ (r : List ℕ). 0 ∷ 0 ∷ r) (frames_blank from l why))

  -- ---- a table that runs out

  length_taken : (n : ℕ) (p : Place) → length (numbers_taken order 4 n s p).value ≡ n
  unfolding numbers_taken
  length_taken zero p = refl
  length_taken (suc n) p = ap suc (length_taken n (number_taken order 4 s p).then)

  table_refused : (n : ℕ) (c : Cursor) (t : Bool) → leb (c.pos + 4) (length s) ≡ t → 0 < n → length s < c.pos + 4 * n → Refused (numbers_taken order 4 n s (Ok c)).then
  unfolding numbers_taken
  table_refused zero c t e z h = absurd (omega arith)
  table_refused (suc n) c false e z h =
      rw (lacks 4 c c.pos refl (leb-false (c.pos + 4) (length s) e)) (record { why = UnexpectedEof c.pos 4; is = numbers_stay order 4 s n (UnexpectedEof c.pos 4) })
  table_refused (suc n) c true e z h =
      let room : c.pos + 4 ≤ length s = leb-true (c.pos + 4) (length s) e in
      let k = pos_advanced c 4 in
      rw (there 4 c c.pos refl room) (table_refused n (advanced c 4) _ refl (omega arith) (omega (arith, k)))

  pub table_blank : (from n : ℕ) (c : Cursor) → length s < c.pos + 4 * n
      → (frames_taken order s from (numbers_taken order 4 n s (Ok c)).value (numbers_taken order 4 n s (Ok c)).then).value ≡ replicate (2 * n) 0
  unfolding numbers_taken frames_taken
  table_blank from zero c h = refl
  table_blank from (suc n) c h =
      let r = table_refused (suc n) c _ refl (omega arith) h in
      rw r.is (frames_blank from (numbers_taken order 4 (suc n) s (Ok c)).value r.why) ∙ ap (λ (k : ℕ). replicate (2 * k) 0) (length_taken (suc n) (Ok c))
