-- A list cut into chunks of one length: which elements the chunk i has.
use mathlib.Core.Path.{◌≡◌, ap, ◌∙◌}
use Prim.Native.Nat.{ℕ, zero, suc, ◌+◌, ◌*◌, ◌<◌}
use native.Mathlib.Omega.{arith}
use native.Mathlib.Nat.{mul-zero, mul-suc}
use mathlib.Core.List.{List}
use lib.ListN.{take, drop, get_or}
use lib.Seq.{drop-drop}
use Rattle.std.specs.Simd.{first_chunks}

pub chunk_at : {X : Type 0} (n k i : ℕ) (xs : List X) (d : List X) → i < k → get_or (first_chunks n k xs) i d ≡ take n (drop (n * i) xs)
chunk_at n zero i xs d h = absurd (omega arith)
chunk_at n (suc k) zero xs d h = rw (mul-zero n)
chunk_at n (suc k) (suc i) xs d h =
    let e : n * suc i ≡ n + n * i = omega (arith, mul-suc n i) in
    chunk_at n k i (drop n xs) d (omega arith) ∙ rw e (ap (take n) (drop-drop (n * i) n xs))
