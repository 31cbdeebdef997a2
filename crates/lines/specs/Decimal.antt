-- A number as the bytes of its decimal digits.
use Rattle.std.specs.Prelude.{ℕ, zero, suc, ◌+◌, ◌/◌, ◌%◌, cond, List, [], ◌∷◌, ◌++◌, ltb}

-- the digits of n, the highest first, where k are enough: those of n / 10 unless n is a digit itself, and then the last
unfoldable pub decimal_in : ℕ → ℕ → List ℕ
decimal_in zero n = []
decimal_in (suc k) n = cond (ltb n 10) [] (decimal_in k (n / 10)) ++ ((48 + n % 10) ∷ [])

-- n has no more than n + 1 digits
unfoldable pub decimal : ℕ → List ℕ
decimal n = decimal_in (suc n) n
