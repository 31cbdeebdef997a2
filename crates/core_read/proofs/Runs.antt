-- Laws of a run of steps (`specs/Taken.antt`), for every width together.
use mathlib.Core.Path.{◌≡◌, refl, sym, ap, ◌∙◌}
use mathlib.Core.Bool.{Bool, true, false}
use mathlib.Core.List.{List, [], ◌∷◌}
use Prim.Native.Nat.{ℕ, zero, suc, ◌+◌, ◌-◌, ◌≤◌, ◌<◌, min}
use native.Mathlib.Omega.{arith}
use borrow.Author.Tests.{le-leb, lt-leb, lt-ltb, le-ltb}
use native.Mathlib.Nat.{le_of_lt, zero-min, min-zero, suc-min-suc}
use lib.ListN.{length, take, drop, length-take, length-drop}
use Rattle.core_read.specs.Bytes.{part, number_at}
use Rattle.core_read.specs.Taken.{advanced, moved, stop_if, sought, number_taken, string_taken, up_to_nul, over, as_count, Place}
use Rattle.core_read.specs.Taken.{Taken}
use Rattle.core_read.specs.declared.error.Refusal.{Refusal}
use Rattle.core_read.specs.declared.error.Refusal.TheVariants.{UnexpectedEof}
use Rattle.core_read.specs.declared.cursor.ByteOrder.{ByteOrder}
use Rattle.core_read.specs.declared.cursor.Cursor.{Cursor}
use Rattle.core_read.proofs.Cursors.{moved_here}
use Rattle.std.specs.Prelude.{Err, Ok}

-- ---- checks

-- what a check that was passed tells
pub cleared : (p : Place) (bad : Bool) (why : Refusal) (c : Cursor) → stop_if p bad why ≡ Ok c → (p ≡ Ok c) × (bad ≡ false)
unfolding stop_if
cleared (Ok x) true why c e = (cc, cc)
cleared (Ok x) false why c e = (e, refl)
cleared (Err first) bad why c e = (cc, cc)

-- a check that lets through
pub passed : (c : Cursor) (bad : Bool) (why : Refusal) → bad ≡ false → stop_if (Ok c) bad why ≡ Ok c
unfolding stop_if
passed c bad why e = rw e

-- ---- seeks

module _ (s : List ℕ) (p : Place) (to : ℕ) where
  pub seek_got : (c : Cursor) → p ≡ Ok c → to ≤ length s → Ok (moved c to) ≡ sought s p to
  unfolding sought
  seek_got c e h = rw (e, le-leb to (length s) h)

  pub seek_beyond : (c : Cursor) → p ≡ Ok c → length s < to → Err (UnexpectedEof (length s) (to - length s)) ≡ sought s p to
  unfolding sought
  seek_beyond c e h = rw (e, lt-leb to (length s) h)

  pub seek_stays : (first : Refusal) → p ≡ Err first → Err first ≡ sought s p to
  unfolding sought
  seek_stays first e = rw e

-- within the bytes
pub seek_to : (s : List ℕ) (d : Cursor) (to at : ℕ) → to ≡ at → at ≤ length s → sought s (Ok d) to ≡ Ok (moved d at)
seek_to s d to at e h = rw e (sym (seek_got s (Ok d) at d refl h))

-- to where the run stands
pub seek_here : (s : List ℕ) (d : Cursor) (to : ℕ) → to ≡ d.pos → d.pos ≤ length s → sought s (Ok d) to ≡ Ok d
seek_here s d to e h = seek_to s d to d.pos e h ∙ ap Ok (moved_here d)

-- ---- numbers

module _ (order : ByteOrder) (w : ℕ) (s : List ℕ) (p : Place) (c : Cursor) (here : p ≡ Ok c) where
  -- the bytes suffice
  pub got : (v : ℕ) → v ≡ number_at order w s c.pos → (d : Cursor) → d ≡ advanced c w → c.pos + w ≤ length s
      → ◌≡◌ {A = Taken ℕ} (record { value = v; then = Ok d }) (number_taken order w s p)
  unfolding number_taken
  got v e d f h = rw (here, le-leb (c.pos + w) (length s) h, e, f)

  -- they do not
  pub short : length s < c.pos + w → ◌≡◌ {A = Taken ℕ} (record { value = 0; then = Err (UnexpectedEof c.pos w) }) (number_taken order w s p)
  unfolding number_taken
  short h = rw (here, lt-leb (c.pos + w) (length s) h)

pub stays : (order : ByteOrder) (w : ℕ) (s : List ℕ) (p : Place) (why : Refusal) → p ≡ Err why
    → ◌≡◌ {A = Taken ℕ} (record { value = 0; then = Err why }) (number_taken order w s p)
unfolding number_taken
stays order w s p why here = rw here

-- ---- fixed strings

-- two counts that take the same
take_min : (m : ℕ) (l : List ℕ) → take m l ≡ take (min m (length l)) l
take_min zero l = rw zero-min
take_min (suc m) [] = rw min-zero
take_min (suc m) (x ∷ l) = rw suc-min-suc (ap (λ (t : List ℕ). x ∷ t) (take_min m l))

take_both : (m n : ℕ) (l : List ℕ) → min m (length l) ≡ min n (length l) → take m l ≡ take n l
take_both m n l e = take_min m l ∙ ap (λ (k : ℕ). take k l) e ∙ sym (take_min n l)

module _ (w : ℕ) (s : List ℕ) (at end : ℕ) (h : at ≤ length s) (e : end ≡ min (at + w) (length s)) where
  -- what is left of a width: how much, and its bytes
  left : end - at ≡ length (part w s at)
  unfolding part
  left = simp (length-take, length-drop) (omega arith)

  whole : take (end - at) (drop at s) ≡ part w s at
  unfolding part
  whole = take_both (end - at) w (drop at s) (simp length-drop (omega (arith, h, e)))

-- a count, a place and a list as a read of a fixed string leaves them
abbrev pub Read : ℕ → List ℕ → Place → List ℕ → ℕ → Place → List ℕ → Type 0
Read w s p old count then out =
    (◌≡◌ {A = Taken ℕ} (record { value = count; then = then }) (as_count (string_taken w s p))) × (out ≡ over (string_taken w s p).value old)

module _ (w : ℕ) (s : List ℕ) (p : Place) (old : List ℕ) where
  -- src is what is left of the width, from its place to its end
  pub string_got : (c : Cursor) → p ≡ Ok c → (out src : List ℕ) (count end : ℕ) (d : Cursor)
      → c.pos < length s → end ≡ min (c.pos + w) (length s) → src ≡ take (end - c.pos) (drop c.pos s)
      → count ≡ length (up_to_nul src) → out ≡ over (up_to_nul src) old → d ≡ advanced c (end - c.pos) → Read w s p old count (Ok d) out
  unfolding string_taken
  string_got c here out src count end d h e f g k m =
      let same : src ≡ part w s c.pos = f ∙ whole w s c.pos end (le_of_lt h) e in
      rw (here, lt-ltb c.pos (length s) h, g, k, m, same, left w s c.pos end (le_of_lt h) e) (refl, refl)

  -- no byte is left
  pub string_short : (c : Cursor) → p ≡ Ok c → length s ≤ c.pos → Read w s p old 0 (Err (UnexpectedEof c.pos w)) old
  unfolding string_taken
  string_short c here h = rw (here, le-ltb c.pos (length s) h) (refl, refl)
