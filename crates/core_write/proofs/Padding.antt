-- The padding of a place is the least count that reaches a multiple of 4, and its low two bits give it.
use mathlib.Core.Path.{◌≡◌, ap, ◌∙◌}
use Prim.Native.Nat.{ℕ, ◌+◌, ◌-◌, ◌%◌, ◌≤◌, ◌<◌}
use native.Mathlib.Omega.{arith}
use lib.Bits.{bit_and, and_mask}
use Rattle.core_read.specs.Bytes.{padding}

-- Note 3 of document 02: for every place it is the least count that reaches a multiple of 4
pub padding_least_count : (p : ℕ) → ((p + padding p) % 4 ≡ 0) × ((n : ℕ) → (p + n) % 4 ≡ 0 → padding p ≤ n)
unfolding padding
padding_least_count p = (omega arith, λ n h. omega (arith, h))

-- the same count from the place's low two bits
pub padding_low_bits : (p : ℕ) → bit_and (4 - bit_and p 3) 3 ≡ padding p
unfolding padding
padding_low_bits p = and_mask (4 - bit_and p 3) 2 ∙ ap (λ (k : ℕ). (4 - k) % 4) (and_mask p 2)

pub padding_small : (p : ℕ) → padding p < 4
unfolding padding
padding_small p = omega arith

pub padding_none : (p : ℕ) → p % 4 ≡ 0 → padding p ≡ 0
unfolding padding
padding_none p h = omega arith

-- it depends on the place modulo 4 alone
pub padding_shift : (p q : ℕ) → p % 4 ≡ 0 → padding (p + q) ≡ padding q
unfolding padding
padding_shift p q h = omega arith
