-- The scan of the last units of a list, that gives the answer for the whole: character by character.
use mathlib.Core.Path.{◌≡◌, refl, sym, ap, ◌∙◌}
use mathlib.Core.List.{List, [], ◌∷◌}
use mathlib.Core.Bool.{Bool, true, false, ◌||◌, ◌&&◌, true≢false, false≢true}
use Prim.Native.Nat.{ℕ, ◌+◌, ◌-◌, ◌≤◌, ◌<◌}
use native.Mathlib.Omega.{arith}
use lib.ListN.{length, get_or, take, drop}
use lib.Dec.{leb}
use borrow.Author.Tests.{leb-true, lt-leb}
use borrow.Rule.Slice.PartAt.{part_to_end}
use Rattle.std.specs.Prelude.{Some, None}
use Rattle.utf8.proofs.Tests.{pick, and_left, and_right}
use Rattle.utf16.specs.Utf16.{high_surrogate, low_surrogate, scan, utf16_of}
use Rattle.utf16.proofs.Scan.{one_less}

high_not_low : (u : ℕ) → high_surrogate u ≡ true → low_surrogate u ≡ false
unfolding high_surrogate low_surrogate
high_not_low u e =
    let h : u ≤ 0xDBFF = leb-true _ _ (and_right (leb 0xD800 u) (leb u 0xDBFF) e) in
    rw (lt-leb 0xDC00 u (omega arith)) refl

pub record ScansRest (l rest : List ℕ) : Type 0 where
  pub within : length rest ≤ length l
  pub same : utf16_of l ≡ scan false (length l - length rest) rest

pub rest_whole : (l : List ℕ) → ScansRest l l
unfolding utf16_of
rest_whole l = record { within = omega arith; same = ap (λ (k : ℕ). scan false k l) (omega arith) }

-- where it ends
pub rest_over : (l rest : List ℕ) → ScansRest l rest → length rest < 1 → None ≡ utf16_of l
unfolding scan
rest_over l [] s h = sym s.same
rest_over l (u ∷ r) s h = absurd (omega (arith, h))

-- past a unit that is no surrogate
neither : (a b : Bool) → (a || b) ≡ false → (a ≡ false) × (b ≡ false)
neither true b e = absurd (true≢false e)
neither false b e = (refl, e)

pub rest_single : (l rest : List ℕ) → ScansRest l rest → 1 ≤ length rest
    → (high_surrogate (get_or rest 0 0) || low_surrogate (get_or rest 0 0)) ≡ false → ScansRest l (take (length rest - 1) (drop 1 rest))
unfolding scan
rest_single l [] s h e = absurd (omega (arith, h))
rest_single l (u ∷ r) s h e =
    let (f, g) = neither (high_surrogate u) (low_surrogate u) e in
    let n : length l - length (u ∷ r) + 1 ≡ length l - length r = omega (arith, s.within) in
    let k : ScansRest l r = record { within = omega (arith, s.within); same = s.same ∙ rw (g, f) (ap (λ (k : ℕ). scan false k r) n) } in
    rw (part_to_end (u ∷ r) 1) k

-- past a pair
pub rest_pair : (l rest : List ℕ) → ScansRest l rest → 2 ≤ length rest
    → (high_surrogate (get_or rest 0 0) && low_surrogate (get_or rest 1 0)) ≡ true → ScansRest l (take (length rest - 2) (drop 2 rest))
unfolding scan
rest_pair l [] s h e = absurd (omega (arith, h))
rest_pair l (u ∷ []) s h e = absurd (omega (arith, h))
rest_pair l (u ∷ v ∷ r) s h e =
    let f = and_left (high_surrogate u) (low_surrogate v) e in
    let g = and_right (high_surrogate u) (low_surrogate v) e in
    let n : length l - length (u ∷ v ∷ r) + 1 + 1 ≡ length l - length r = omega (arith, s.within) in
    let k : ScansRest l r = record { within = omega (arith, s.within); same = s.same ∙ rw (high_not_low u f, f, g) (ap (λ (k : ℕ). scan false k r) n) } in
    rw (part_to_end (u ∷ v ∷ r) 2) k

-- at any other unit
left_true : (a b : Bool) → (a || b) ≡ true → b ≡ false → a ≡ true
left_true true b e f = refl
left_true false b e f = absurd (true≢false (sym e ∙ f))

waits_for_none : (i : ℕ) (h : Bool) (r : List ℕ) → h ≡ true → (1 ≤ length r → (h && low_surrogate (get_or r 0 0)) ≡ false) → scan h (i + 1) r ≡ Some i
unfolding scan
waits_for_none i false r e f = absurd (false≢true e)
waits_for_none i true [] e f = one_less i
waits_for_none i true (v ∷ r) e f = rw (f (omega arith)) (one_less i)

unpaired : (i u : ℕ) (r : List ℕ) → (high_surrogate u || low_surrogate u) ≡ true → (1 ≤ length r → (high_surrogate u && low_surrogate (get_or r 0 0)) ≡ false)
    → scan false i (u ∷ r) ≡ Some i
unfolding scan
unpaired i u r e f =
    pick (λ x. x ≡ Some i) (low_surrogate u) (Some i) (scan (high_surrogate u) (i + 1) r)
    (λ t. refl)
    (λ t. waits_for_none i (high_surrogate u) r (left_true _ _ e t) f)

pub rest_unpaired : (l rest : List ℕ) → ScansRest l rest → 1 ≤ length rest
    → (high_surrogate (get_or rest 0 0) || low_surrogate (get_or rest 0 0)) ≡ true
    → (2 ≤ length rest → (high_surrogate (get_or rest 0 0) && low_surrogate (get_or rest 1 0)) ≡ false)
    → Some (length l - length rest) ≡ utf16_of l
rest_unpaired l [] s h e f = absurd (omega (arith, h))
rest_unpaired l (u ∷ r) s h e f = sym (s.same ∙ unpaired (length l - length (u ∷ r)) u r e (λ k. f (omega (arith, k))))
