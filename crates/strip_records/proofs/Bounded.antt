-- Numbers that are each below n.
use Prim.Native.Nat.{ℕ, suc, ◌<◌}
use mathlib.Core.List.{List, [], ◌∷◌}
use lib.ListN.{get_or}
use Rattle.strip_records.specs.Typed.{Below}

pub below_all : (n : ℕ) (l : List ℕ) → ((i : ℕ) → get_or l i 0 < n) → Below n l
unfolding Below
below_all n [] f = tt
below_all n (x ∷ xs) f = (f 0, below_all n xs (λ i. f (suc i)))
