-- WRITES IN ANY BYTE ORDER: whether one is accepted, its refusal with the figures, and its end are the same in every order. By its type
-- `write_answer` has no order, and of the output it takes the length alone; here that is said of whole lists of writes.
use mathlib.Core.Path.{◌≡◌, refl, sym, ap, ◌∙◌}
use Prim.Native.Nat.{ℕ}
use mathlib.Core.List.{List, [], ◌∷◌}
use lib.ListN.{length}
use Rattle.core_read.specs.Bytes.{splice}
use Rattle.core_read.specs.declared.cursor.ByteOrder.{ByteOrder}
use Rattle.core_checks.specs.Checks.{unless_refused, Written}
use Rattle.core_write.proofs.Puts.{length_splice}
use Rattle.strip_records.specs.Whole.{Whole}
use Rattle.strip_write.specs.Write.{section, write_checked, write_answer, write_output}
use Rattle.strip.specs.Strip.{Run, step, run_from, run, next_place, answers_from, answers}
use Rattle.core_read.specs.Taken.{Place}
use Rattle.std.specs.Prelude.{Err, Ok}

-- what two lists of writes have in common: what was kept, the ends, and the place of the next write
pub record Alike (t u : Run) : Type 0 where
  pub kept : t.kept ≡ u.kept
  pub ends : t.ends ≡ u.ends
  pub place : t.place ≡ u.place

length_unless : (q : Place) (o xs : List ℕ) (p : ℕ) → length (unless_refused q o (splice o p xs)) ≡ length o
unfolding unless_refused
length_unless (Ok c) o xs p = length_splice o p xs
length_unless (Err why) o xs p = refl

length_output : (order : ByteOrder) (w : Whole) (o : List ℕ) (p : ℕ) → length (write_output order w o p) ≡ length o
unfolding write_output
length_output order w o p = length_unless (write_checked w (length o) p) o (section order p w) p

module _ (order other : ByteOrder) where
  long : (w : Whole) (o u : List ℕ) (p : ℕ) → length o ≡ length u → length (write_output order w o p) ≡ length (write_output other w u p)
  long w o u p h = length_output order w o p ∙ h ∙ sym (length_output other w u p)

  answers_alike : (ws : List Whole) (o u : List ℕ) (p : ℕ) → length o ≡ length u → answers_from order ws o p ≡ answers_from other ws u p
  unfolding answers_from
  answers_alike [] o u p h = refl
  answers_alike (w ∷ ws) o u p h =
      rw (ap (λ (n : ℕ). write_answer w n p) h, answers_alike ws (write_output order w o p) (write_output other w u p) (next_place (write_answer w (length u) p) p) (long w o u p h))

  alike_step : (w : Whole) (ws : List Whole) → ((o u : List ℕ) (p : ℕ) → length o ≡ length u → Alike (run_from order ws o p) (run_from other ws u p))
      → (o u : List ℕ) (p : ℕ) → length o ≡ length u → (a : Written)
      → Alike (step a w (λ q. run_from order ws (write_output order w o p) q) p) (step a w (λ q. run_from other ws (write_output other w u p) q) p)
  unfolding step
  alike_step w ws ih o u p h (Err why) = ih _ _ p (long w o u p h)
  alike_step w ws ih o u p h (Ok e) =
      let d = ih (write_output order w o p) (write_output other w u p) e (long w o u p h) in
      record { kept = ap (λ (l : List Whole). w ∷ l) d.kept; ends = ap (λ (l : List ℕ). e ∷ l) d.ends; place = d.place }

  alike : (ws : List Whole) (o u : List ℕ) (p : ℕ) → length o ≡ length u → Alike (run_from order ws o p) (run_from other ws u p)
  unfolding run_from
  alike [] o u p h = record { kept = refl; ends = refl; place = refl }
  alike (w ∷ ws) o u p h = rw (ap (λ (n : ℕ). write_answer w n p) h) (alike_step w ws (alike ws) o u p h (write_answer w (length u) p))

-- THE SAME WRITES IN TWO BYTE ORDERS, into outputs of the same length, whatever they hold
pub orders_alike : (order other : ByteOrder) (ws : List Whole) (o u : List ℕ) → length o ≡ length u
    → (answers order ws o ≡ answers other ws u) × Alike (run order ws o) (run other ws u)
orders_alike order other ws o u h = (answers_alike order other ws o u 0 h, alike order other ws o u 0 h)
