-- What the impls of `Number` prove of their members.
use Rattle.std.specs.Prelude.{◌≡◌, ℕ, ◌-◌, ◌<◌, Bool, true, false, cond, pos, negsuc, ltb, refl}
use Rattle.std.proofs.Common.{arith}
use Rattle.core_read.specs.Bytes.{signed_of, bits_of}

by_half : (v : ℕ) (t : Bool) → v < 65536 → bits_of (cond t (pos v) (negsuc (65535 - v))) ≡ v
unfolding bits_of
by_half v true h = refl
by_half v false h = omega (arith, h)

-- a signed number has the bits that it was made of
pub bits_signed : (v : ℕ) → v < 65536 → bits_of (signed_of v) ≡ v
unfolding signed_of
bits_signed v h = by_half v (ltb v 32768) h
