-- Laws of the walk by sequences, and of the runs of ASCII bytes that it skips.
use mathlib.Core.Path.{◌≡◌, refl, ap, sym, ◌∙◌}
use mathlib.Core.List.{List, [], ◌∷◌}
use mathlib.Core.Bool.{Bool, true, false, ◌||◌}
use Prim.Native.Nat.{ℕ, zero, suc, ◌+◌, ◌≤◌, ◌<◌}
use native.Mathlib.Omega.{arith}
use native.Mathlib.Numerals.{add-one}
use lib.ListN.{length, drop, length-drop}
use lib.Dec.{ltb, eqb}
use borrow.Author.Tests.{lt-ltb, le-ltb, ltb-true, eq-eqb, ne_eqb}
use Rattle.std.specs.Prelude.{Option, Some, None, MatchOption, unwrap_or, HoldsAt}
use Rattle.std.specs.Option.{option_map_or}
use Rattle.std.specs.List.{AllWithin}
use Rattle.std.proofs.lemmas.Iterator.{index_from_first}
use Rattle.utf8.specs.Utf8.{table, row1, takes, row_of, fits, sequence, walk, well_formed, ascii_run}
use Rattle.utf8.proofs.Rows.{takes_bounds, sequence_good, sequence_some}
use Rattle.utf8.proofs.Tests.{pick}

-- ---- to allow more sequences than there are bytes changes nothing

option_same : {A : Type 0} (o : Option ℕ) (f g : ℕ → A) (d : A) → ((n : ℕ) → o ≡ Some n → f n ≡ g n) → option_map_or f o d ≡ option_map_or g o d
option_same None f g d h = refl
option_same (Some n) f g d h = h n refl

fuel : (f g : ℕ) (l : List ℕ) → length l ≤ f → length l ≤ g → walk f l ≡ walk g l
unfolding walk
fuel zero zero l h k = refl
fuel zero (suc g) l h k = rw (eq-eqb (length l) 0 (omega arith))
fuel (suc f) zero l h k = rw (eq-eqb (length l) 0 (omega arith))
fuel (suc f) (suc g) l h k =
    ap (λ (b : Bool). eqb (length l) 0 || b)
    (option_same (sequence l) (λ n. walk f (drop n l)) (λ n. walk g (drop n l)) false
    (λ n e. let s = sequence_some l n e in
    let d = length-drop n l in
    fuel f g (drop n l) (omega (arith, d, s.0, s.1, h)) (omega (arith, d, s.0, s.1, k))))

-- ---- a step, and none

pub well_formed_none : well_formed [] ≡ true
unfolding well_formed walk
well_formed_none = refl

pub well_formed_step : (l : List ℕ) (n : ℕ) → sequence l ≡ Some n → well_formed l ≡ well_formed (drop n l)
unfolding well_formed walk
well_formed_step [] n e = absurd (omega (arith, sequence_some [] n e))
well_formed_step (x ∷ l) n e =
    let s = sequence_some (x ∷ l) n e in
    let d = length-drop n (x ∷ l) in
    rw (ne_eqb (length (x ∷ l)) 0 (omega arith), e)
    (fuel (length l) (length (drop n (x ∷ l))) (drop n (x ∷ l)) (omega (arith, d, s.0)) (omega arith))

pub well_formed_stuck : (l : List ℕ) → 0 < length l → sequence l ≡ None → well_formed l ≡ false
unfolding well_formed walk
well_formed_stuck [] h k = absurd (omega arith)
well_formed_stuck (x ∷ l) h k = rw (ne_eqb (length (x ∷ l)) 0 (omega arith), k)

-- ---- ASCII

ascii_takes : (b : ℕ) → b < 0x80 → takes (row1 0x00 0x7F) 0 b ≡ true
ascii_takes b h = (takes_bounds (row1 0x00 0x7F) 0 b).1 (omega arith, omega (arith, h))

ascii_row : (b : ℕ) → b < 0x80 → row_of table b ≡ Some (row1 0x00 0x7F)
unfolding row_of table
ascii_row b h = rw (ascii_takes b h)

pub ascii_one : (b : ℕ) (l : List ℕ) → b < 0x80 → sequence (b ∷ l) ≡ Some 1
unfolding fits
ascii_one b l h = sequence_good (b ∷ l) (row1 0x00 0x7F) (ascii_row b h) (omega arith) (ascii_takes b h)

ascii_run_lem : (l : List ℕ) → well_formed l ≡ well_formed (drop (ascii_run l) l)
unfolding ascii_run
ascii_run_lem [] = refl
ascii_run_lem (b ∷ l) =
    pick (λ (n : ℕ). well_formed (b ∷ l) ≡ well_formed (drop n (b ∷ l))) (ltb b 0x80) (suc (ascii_run l)) 0
    (λ t. well_formed_step (b ∷ l) 1 (ascii_one b l (ltb-true _ _ t)) ∙ ascii_run_lem l)
    (λ t. refl)

-- the run is as long as the place of the first byte that is no ASCII
run_hit : (b : ℕ) (l : List ℕ) → 0x80 ≤ b → ascii_run (b ∷ l) ≡ 0
unfolding ascii_run
run_hit b l h = rw (le-ltb _ _ h)

run_miss : (b : ℕ) (l : List ℕ) → b < 0x80 → ascii_run (b ∷ l) ≡ ascii_run l + 1
unfolding ascii_run
run_miss b l h = rw (lt-ltb _ _ h, add-one)

run_empty : ascii_run [] ≡ 0
unfolding ascii_run
run_empty = refl

pub run_at : (l : List ℕ) (r : Option ℕ)
    → MatchOption r (AllWithin (λ b. b < 0x80) l 0 (length l)) (λ i. (i < length l) × HoldsAt (λ b. 0x80 ≤ b) l i × AllWithin (λ b. b < 0x80) l 0 i)
    → ascii_run l ≡ unwrap_or r (length l)
run_at l r h = index_from_first ascii_run (λ b. 0x80 ≤ b) (λ b. b < 0x80) run_empty run_hit run_miss l r h

-- ---- what is left of s decides

empty : (l : List ℕ) → length l ≡ 0 → l ≡ []
empty [] e = refl
empty (x ∷ l) e = absurd (omega (arith, e))

pub record Walked (s left : List ℕ) : Type 0 where
  pub same : well_formed s ≡ well_formed left

pub walked_none : (s : List ℕ) → Walked s s
walked_none s = record { same = refl }

module _ (s left r : List ℕ) (w : Walked s left) where
  pub walked_ascii : r ≡ drop (ascii_run left) left → Walked s r
  walked_ascii e = record { same = w.same ∙ ascii_run_lem left ∙ rw e }

  pub walked_more : (n : ℕ) → sequence left ≡ Some n → r ≡ drop n left → Walked s r
  walked_more n k e = record { same = w.same ∙ well_formed_step left n k ∙ rw e }

module _ (s left : List ℕ) (w : Walked s left) where
  pub walked_stuck : 0 < length left → sequence left ≡ None → false ≡ well_formed s
  walked_stuck h k = sym (w.same ∙ well_formed_stuck left h k)

  pub walked_all : length left ≡ 0 → true ≡ well_formed s
  walked_all h = sym (w.same ∙ ap well_formed (empty left h) ∙ well_formed_none)
