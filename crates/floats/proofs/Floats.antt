-- Every pattern of 32 bits comes back through its value.
use mathlib.Core.Path.{◌≡◌, refl, sym, subst, ap}
use mathlib.Core.Bool.{Bool, true, false, cond}
use Prim.Native.Nat.{ℕ, ◌<◌, ◌*◌, ◌^◌}
use lib.Dec.{T}
use lib.Ieee.{Float, nan, inf, fin, is_nan, binary32, nan_bits, of_bits, to_bits, top}
use lib.Ieee.Bits.{nan_bits_is, to_bits-of_bits}
use Rattle.floats.specs.Floats.{float, value_of, bits_of}
use Rattle.floats.specs.declared.Binary32.{Binary32}
use Rattle.floats.specs.declared.FloatValue.TheVariants.{Number, NotANumber}

-- a test for a NaN tells the NaN of the logic
pub only_nan : (x : Float) → is_nan x ≡ true → x ≡ nan
unfolding is_nan
only_nan nan h = refl
only_nan (inf s) h = absurd (subst T (sym h) tt)
only_nan (fin s m e) h = absurd (subst T (sym h) tt)

-- the pattern that stands for the NaN of the logic
pub bits_nan : (x : Float) → x ≡ nan → float 2143289344 ≡ bits_of (Number x)
unfolding to_bits
bits_nan x e = rw e

back : (b : ℕ) (t : Bool) → b < 2 * top binary32 → is_nan (of_bits binary32 b) ≡ t → bits_of (cond t (NotANumber b) (Number (of_bits binary32 b))) ≡ float b
back b true h e = refl
back b false h e = ap float (to_bits-of_bits binary32 b h (rw e tt))

-- THE ROUND TRIP
pub value_back : (x : Binary32) → x.bits < 256 ^ 4 → bits_of (value_of x) ≡ x
value_back x h = back x.bits (nan_bits binary32 x.bits) h (sym (nan_bits_is binary32 x.bits))
