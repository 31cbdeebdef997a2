-- A signed number of 16 bits and its bits: what the two conversions compute, and that they are each other's inverse.
use mathlib.Core.Path.{◌≡◌, refl}
use mathlib.Core.Bool.{Bool, true, false, cond}
use Prim.Native.Nat.{ℕ, ◌-◌, ◌<◌, ◌^◌}
use native.Mathlib.Omega.{arith}
use borrow.Author.Tests.{lt-ltb, le-ltb, ltb-true, ltb-false}
use borrow.Author.Rules.{sfits_of}
use lib.IntN.{ℤ, pos, negsuc}
use lib.Dec.{ltb}
use mir.Syntax.{w16}
use mir.Val.{SFits}
use Rattle.core_read.specs.Bytes.{signed_of, bits_of}

-- there and back
pub bits_fit : (x : ℤ) → SFits w16 x → bits_of x < 256 ^ 2
unfolding bits_of
bits_fit (pos n) f = omega (arith, f.sfits)
bits_fit (negsuc n) f = omega (arith, f.sfits)

pub signed_bits : (x : ℤ) → SFits w16 x → signed_of (bits_of x) ≡ x
unfolding signed_of bits_of
signed_bits (pos n) f = rw (lt-ltb n 32768 (omega (arith, f.sfits)))
signed_bits (negsuc n) f =
    let e : 65535 - (65535 - n) ≡ n = omega (arith, f.sfits) in
    rw (le-ltb (65535 - n) 32768 (omega (arith, f.sfits)), e)

signed_fits_by : (v : ℕ) (t : Bool) → ltb v 32768 ≡ t → v < 65536 → SFits w16 (cond t (pos v) (negsuc (65535 - v)))
signed_fits_by v true e h = sfits_of (omega (arith, ltb-true v 32768 e))
signed_fits_by v false e h = sfits_of (omega (arith, ltb-false v 32768 e))

pub signed_fits : (v : ℕ) → v < 65536 → SFits w16 (signed_of v)
unfolding signed_of
signed_fits v h = signed_fits_by v (ltb v 32768) refl h
