-- The bytes before the first NUL, and a byte that is 0, as the library finds them.
use Rattle.std.proofs.Common.{◌≡◌, ℕ, suc, ◌+◌, ◌≤◌, Bool, true, false, cond, ◌||◌, List, [], ◌∷◌, ◌++◌, length, take, drop, position, unwrap_or, Some, None, ltb, eqb, refl, ap, arith}
use borrow.Author.Tests.{ltb-false, eq-eqb, ne_eqb}
use borrow.Author.Count.{below_more}
use native.Mathlib.Nat.{le_of_suc-le-suc, not-suc-le-zero}
use native.Mathlib.Numerals.{add-one}
use Prim.Native.Nat.{zero, ◌<◌, zero-le}
use mathlib.Core.Path.{sym, ◌∙◌}
use lib.Seq.{length-take-le, take_all}
use lib.ListN.{get_or, set, length-set}
use Rattle.std.specs.List.{list_any, position_or_len}
use Rattle.std.proofs.lemmas.List.Recursion.{is_position_or_len}
use Rattle.core_read.specs.Taken.{up_to_nul, has_zero}

pub nul_within : (s : List ℕ) → length (up_to_nul s) ≤ length s
unfolding up_to_nul
nul_within [] = omega arith
nul_within (b ∷ bs) = let h = nul_within bs in elim (eqb b 0) as (λ t. length (cond t [] (b ∷ up_to_nul bs)) ≤ suc (length bs)) [
  | true ↦ omega arith
  | false ↦ omega (arith, h)
]

-- they are as many as there are places before it
nul_step : (b : ℕ) (bs : List ℕ) → length (up_to_nul (b ∷ bs)) ≡ cond (eqb b 0) 0 (1 + length (up_to_nul bs))
unfolding up_to_nul
nul_step b bs = elim (eqb b 0) as (λ t. length (cond t [] (b ∷ up_to_nul bs)) ≡ cond t 0 (1 + length (up_to_nul bs))) [
  | true ↦ refl
  | false ↦ omega arith
]

nul_position : (s : List ℕ) → length (up_to_nul s) ≡ position_or_len (λ b. eqb b 0) s
unfolding up_to_nul
nul_position s = is_position_or_len (λ l. length (up_to_nul l)) (λ b. eqb b 0) refl nul_step s

or_all : (k n : ℕ) (t : Bool) → ltb k n ≡ t → k ≤ n → unwrap_or (cond t (Some k) None) n ≡ k
or_all k n true e h = refl
or_all k n false e h = omega (arith, ltb-false k n e)

pub nul_found : (s : List ℕ) → unwrap_or (position (λ b. eqb b 0) s) (length s) ≡ length (up_to_nul s)
nul_found s = rw (← nul_position s) (or_all (length (up_to_nul s)) (length s) _ refl (nul_within s))

-- the library's test
pub any_zero : (s : List ℕ) → list_any (λ b. eqb b 0) s ≡ has_zero s
unfolding has_zero
any_zero [] = refl
any_zero (b ∷ bs) = elim (eqb b 0) as (λ t. (t || list_any (λ x. eqb x 0) bs) ≡ cond t true (has_zero bs)) [
  | true ↦ refl
  | false ↦ any_zero bs
]

-- ---- a fixed string copied to the front of a list

-- the text of a list that has no NUL among its first i bytes, and one that has its first NUL there
pub open_up : (l : List ℕ) (i : ℕ) → i < length l → ((k : ℕ) → k < i → get_or l k 0 ≡ 0 → ⊥) → (get_or l i 0 ≡ 0) → up_to_nul l ≡ take i l
unfolding up_to_nul
open_up [] i h f e = absurd (not-suc-le-zero h)
open_up (b ∷ l) zero h f e = rw (eq-eqb b 0 e)
open_up (b ∷ l) (suc i) h f e =
    rw (ne_eqb b 0 (f 0 (omega arith))) (ap (λ (t : List ℕ). b ∷ t) (open_up l i (le_of_suc-le-suc h) (λ k p. f (suc k) (omega arith)) e))

pub no_nul : (l : List ℕ) → ((k : ℕ) → k < length l → get_or l k 0 ≡ 0 → ⊥) → up_to_nul l ≡ l
unfolding up_to_nul
no_nul [] f = refl
no_nul (b ∷ l) f = rw (ne_eqb b 0 (f 0 (omega arith))) (ap (λ (t : List ℕ). b ∷ t) (no_nul l (λ k p. f (suc k) (omega arith))))

-- a store takes a copy of i bytes to a copy of one more
pub store : (src dst : List ℕ) (i : ℕ) → i < length src → i < length dst → set (take i src ++ drop i dst) i (get_or src i 0) ≡ take (suc i) src ++ drop (suc i) dst
store [] dst i h k = absurd (not-suc-le-zero h)
store (x ∷ xs) [] i h k = absurd (not-suc-le-zero k)
store (x ∷ xs) (y ∷ ys) zero h k = refl
store (x ∷ xs) (y ∷ ys) (suc i) h k = ap (λ (l : List ℕ). x ∷ l) (store xs ys i (le_of_suc-le-suc h) (le_of_suc-le-suc k))

-- after i turns: i bytes that are no NUL are copied
pub record Copied (src out₀ out : List ℕ) (i : ℕ) : Type 0 where
  pub within : i ≤ length src
  pub long : length out ≡ length out₀
  pub front : out ≡ take i src ++ drop i out₀
  pub text : (k : ℕ) → k < i → get_or src k 0 ≡ 0 → ⊥

pub copied_none : (src out : List ℕ) → Copied src out out 0
copied_none src out = record { within = zero-le; long = refl; front = refl; text = λ k p. absurd (not-suc-le-zero p) }

module _ (src out₀ out : List ℕ) (i : ℕ) (v : Copied src out₀ out i) where
  pub copied_more : i < length src → length src ≤ length out₀ → (get_or src i 0 ≡ 0 → ⊥) → Copied src out₀ (set out i (get_or src i 0)) (i + 1)
  copied_more h fits here = record {
    within = omega arith;
    long = length-set out i (get_or src i 0) ∙ v.long;
    front = rw (v.front, add-one) (store src out₀ i h (omega arith));
    text = below_more (λ (k : ℕ). get_or src k 0 ≡ 0 → ⊥) i v.text here;
  }

  done : up_to_nul src ≡ take i src → (i ≡ length (up_to_nul src)) × (out ≡ up_to_nul src ++ drop (length (up_to_nul src)) out₀)
  done e = rw (e, length-take-le i src v.within) (refl, v.front)

  -- the byte at i is the first NUL; there is none
  pub copied_nul : i < length src → get_or src i 0 ≡ 0 → (i ≡ length (up_to_nul src)) × (out ≡ up_to_nul src ++ drop (length (up_to_nul src)) out₀)
  copied_nul h here = done (open_up src i h v.text here)

  pub copied_all : length src ≤ i → (i ≡ length (up_to_nul src)) × (out ≡ up_to_nul src ++ drop (length (up_to_nul src)) out₀)
  copied_all h = done (no_nul src (λ k p. v.text k (omega arith)) ∙ sym (take_all i src h))
