-- Laws of tests that are computed.
use mathlib.Core.Path.{◌≡◌, refl}
use mathlib.Core.Logic.{◌↔◌}
use mathlib.Core.Bool.{Bool, true, false, cond, ◌&&◌, and-eq-true_iff}
use Prim.Native.Nat.{ℕ, ◌≤◌}
use lib.Dec.{leb}
use borrow.Author.Tests.{leb-true, le-leb}

pub pick : {A : Type 0} (P : A → Type 0) (t : Bool) (x y : A) → (t ≡ true → P x) → (t ≡ false → P y) → P (cond t x y)
pick P true x y f g = f refl
pick P false x y f g = g refl

pub and_left : (a b : Bool) → (a && b) ≡ true → a ≡ true
and_left a b e = ((and-eq-true_iff a b).0 e).0

pub and_right : (a b : Bool) → (a && b) ≡ true → b ≡ true
and_right a b e = ((and-eq-true_iff a b).0 e).1

pub and_both : (a b : Bool) → a ≡ true → b ≡ true → (a && b) ≡ true
and_both a b e f = (and-eq-true_iff a b).1 (e, f)

pub not_so : (t : Bool) → (t ≡ true → ⊥) → t ≡ false
not_so true f = absurd (f refl)
not_so false f = refl

-- a number within its bounds
pub between : (a b c : ℕ) → ((leb a b && leb b c) ≡ true) ↔ ((a ≤ b) × (b ≤ c))
between a b c = (
  λ e. (leb-true _ _ (and_left (leb a b) _ e), leb-true _ _ (and_right (leb a b) _ e)),
  λ h. and_both _ _ (le-leb _ _ h.0) (le-leb _ _ h.1),
)

pub and_none : (a : Bool) → (a && false) ≡ false
and_none true = refl
and_none false = refl
