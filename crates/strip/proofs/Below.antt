-- Numbers of a lent list are below what their type holds.
use Prim.Native.Nat.{ℕ, zero, suc, ◌^◌, ◌<◌}
use mathlib.Core.List.{List, [], ◌∷◌}
use native.Mathlib.Nat.{one-le-pow}
use lib.ListN.{get_or}
use lib.Dec.{lit≤}
use Rattle.core_read.proofs.Back.{Fit}
use Rattle.strip_records.specs.Typed.{Below}

-- numbers that fit w bytes, in the terms of the leaves
pub below_fit : (w : ℕ) (l : List ℕ) → Below (256 ^ w) l → Fit w l
unfolding Below Fit
below_fit w [] h = tt
below_fit w (x ∷ xs) h = (h.0, below_fit w xs h.1)

-- the same at each place, past the end too
pub below_at : (w : ℕ) (l : List ℕ) → Below (256 ^ w) l → (k : ℕ) → get_or l k 0 < 256 ^ w
unfolding Below
below_at w [] h k = one-le-pow w 256 (lit≤ tt)
below_at w (x ∷ xs) h zero = h.0
below_at w (x ∷ xs) h (suc k) = below_at w xs h.1 k
