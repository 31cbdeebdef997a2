-- What a read that came through tells, and the text as the code reads it.
use mathlib.Core.Path.{◌≡◌, refl, sym, ap, ◌∙◌}
use mathlib.Core.List.{List}
use mathlib.Core.Bool.{Bool, true, false, cond}
use Prim.Native.Nat.{ℕ, zero, suc, ◌+◌, ◌*◌, ◌≤◌}
use native.Mathlib.Nat.{mul-suc, mul-zero}
use native.Mathlib.Omega.{arith}
use borrow.Author.Tests.{leb-true}
use lib.ListN.{length}
use lib.Dec.{leb}
use Rattle.core_read.specs.Taken.{moved, advanced, sought, number_taken, Place}
use Rattle.core_read.specs.Taken.{Taken}
use Rattle.core_read.specs.Lists.{numbers_taken, numbers_at}
use Rattle.core_read.specs.Steps.{Took, Went}
use Rattle.core_checks.specs.Checks.{unless_refused}
use Rattle.core_read.specs.declared.error.Refusal.{Refusal}
use Rattle.core_read.specs.declared.cursor.ByteOrder.{ByteOrder}
use Rattle.core_read.specs.declared.cursor.Cursor.{Cursor}
use Rattle.core_read.proofs.Cursors.{pos_advanced, pos_moved}
use Rattle.core_read.proofs.Runs.{seek_got}
use Rattle.core_read.proofs.Lists.{number_here, numbers_here, numbers_stay}
use Rattle.text_box_parts.specs.declared.Text.{Text}
use Rattle.core_read.specs.declared.reader.Reader.{Reader}
use Rattle.text_box_parts.specs.Parts.{text_of, text_at}
use Rattle.std.specs.Prelude.{Err, Ok}

-- ---- whether a run came through, and what each step tells then

abbrev pub came : Place → Bool
came (Ok c) = true
came (Err why) = false

pub no_came : false ≡ true → ⊥
no_came h = let z : ◌≡◌ {A = ℕ} 0 1 = cc in omega arith

picked : (b : Bool) (x : Place) (why : Refusal) → came (cond b x (Err why)) ≡ true → (b ≡ true) × (came x ≡ true)
picked true x why h = (refl, h)
picked false x why h = absurd (no_came h)

pub sought_came : (s : List ℕ) (p : Place) (to : ℕ) → came (sought s p to) ≡ true → (came p ≡ true) × (to ≤ length s)
unfolding sought
sought_came s (Ok c) to h = (refl, leb-true to (length s) (picked (leb to (length s)) _ _ h).0)
sought_came s (Err why) to h = absurd (no_came h)

pub number_came : (order : ByteOrder) (w : ℕ) (s : List ℕ) (p : Place) → came (number_taken order w s p).then ≡ true → came p ≡ true
unfolding number_taken
number_came order w s (Ok c) h = refl
number_came order w s (Err why) h = h

picked_then : (b : Bool) (x : Taken ℕ) (v : ℕ) (why : Refusal) → came (cond b x (record { value = v; then = Err why })).then ≡ true → b ≡ true
picked_then true x v why h = refl
picked_then false x v why h = absurd (no_came h)

pub number_fits : (order : ByteOrder) (w : ℕ) (s : List ℕ) (c : Cursor) → came (number_taken order w s (Ok c)).then ≡ true → c.pos + w ≤ length s
unfolding number_taken
number_fits order w s c h = leb-true _ _ (picked_then (leb (c.pos + w) (length s)) _ _ _ h)

pub numbers_came : (order : ByteOrder) (w n : ℕ) (s : List ℕ) (p : Place) → came (numbers_taken order w n s p).then ≡ true → came p ≡ true
numbers_came order w n s (Ok c) h = refl
numbers_came order w n s (Err why) h = rw (numbers_stay order w s n why) at h

pub numbers_fit : (order : ByteOrder) (w n : ℕ) (s : List ℕ) (c : Cursor) → c.pos ≤ length s → came (numbers_taken order w n s (Ok c)).then ≡ true
    → c.pos + w * n ≤ length s
unfolding numbers_taken
numbers_fit order w zero s c l h = omega (arith, mul-zero w)
numbers_fit order w (suc n) s c l h =
    let a : came (number_taken order w s (Ok c)).then ≡ true = numbers_came order w n s _ h in
    let f : c.pos + w ≤ length s = number_fits order w s c a in
    let e : (numbers_taken order w (suc n) s (Ok c)).then ≡ (numbers_taken order w n s (Ok (advanced c w))).then = rw (numbers_taken, number_here order w s c f) in
    let g : came (numbers_taken order w n s (Ok (advanced c w))).then ≡ true = sym (ap came e) ∙ h in
    let k : (advanced c w).pos + w * n ≤ length s = numbers_fit order w n s (advanced c w) (rw pos_advanced f) g in
    omega (arith, pos_advanced c w, mul-suc w n)

-- n numbers at a place that was sought
pub numbers_sought : (order : ByteOrder) (w n : ℕ) (s : List ℕ) (p : Place) (at : ℕ) → came (numbers_taken order w n s (sought s p at)).then ≡ true
    → ((numbers_taken order w n s (sought s p at)).value ≡ numbers_at order w n s at) × (at + w * n ≤ length s)
numbers_sought order w n s (Ok c) at h =
    let l : at ≤ length s = (sought_came s (Ok c) at (numbers_came order w n s _ h)).1 in
    let e : Ok (moved c at) ≡ sought s (Ok c) at = seek_got s (Ok c) at c refl l in
    let g : came (numbers_taken order w n s (Ok (moved c at))).then ≡ true = rw (← e) at h in
    let f : (moved c at).pos + w * n ≤ length s = numbers_fit order w n s (moved c at) (rw pos_moved l) g in
    (rw (← e, numbers_here order w s n (moved c at) f, pos_moved) refl, omega (arith, pos_moved c at))
numbers_sought order w n s (Err why) at h =
    absurd (no_came (sought_came s (Err why) at (numbers_came order w n s _ h)).0)

-- ---- the text as the code reads it: to its place, past its units, and home

module _ (order : ByteOrder) (s : List ℕ) (c there past home : Cursor) (at n end : ℕ) (e : sought s (Ok c) at ≡ Ok there)
    (f : (numbers_taken order 2 n s (Ok there)).then ≡ Ok past) (g : sought s (Ok past) end ≡ Ok home) where
  units : (numbers_taken order 2 n s (sought s (Ok c) at)).then ≡ Ok past
  units = rw e f

  room : at + 2 * n ≤ length s
  room = (numbers_sought order 2 n s (Ok c) at (ap came units)).1

  got : (t : Text) → t ≡ text_of (numbers_at order 2 n s at) → text_at order s (Ok c) at n end ≡ record { value = record { text = t; place = at }; then = Ok home }
  unfolding text_at unless_refused
  got t k = rw (units, k, (numbers_sought order 2 n s (Ok c) at (ap came units)).0, g)

module _ (old there past home : Reader) (at n end : ℕ) (u v w : Unit {0}) (e : Went old there (Ok u) (λ order s p. sought s p at))
    (f : Went there past (Ok v) (λ order s p. (numbers_taken order 2 n s p).then)) (g : Went past home (Ok w) (λ order s p. sought s p end)) where
  from_old : (numbers_taken old.source.order 2 n old.source.«data».now (Ok there.cursor)).then ≡ Ok past.cursor
  from_old = rw e.0 at f.1

  home_again : sought old.source.«data».now (Ok past.cursor) end ≡ Ok home.cursor
  home_again = rw (f.0, e.0) at g.1

  pub text_room : at + 2 * n ≤ length home.source.«data».now
  text_room = rw (g.0, f.0, e.0) (room _ _ _ _ _ _ at n end e.1 from_old home_again)

  pub text_got : (t : Text) → t ≡ text_of (numbers_at home.source.order 2 n home.source.«data».now at)
      → Took old home (Ok (record { text = t; place = at })) (λ order s p. text_at order s p at n end)
  text_got t k =
      (g.0 ∙ f.0 ∙ e.0, got _ _ _ _ _ _ at n end e.1 from_old home_again t (rw (g.0, f.0, e.0) at k))
