-- A float kept by its bits, and the value that they stand for in IEEE 754's terms.
use Rattle.std.specs.Prelude.{ℕ, cond}
use Rattle.std.specs.Float.{binary32}
use Rattle.std.specs.Float.Ieee.{of_bits, to_bits, nan_bits}
use Rattle.floats.specs.declared.Binary32.{Binary32}
use Rattle.floats.specs.declared.FloatValue.{FloatValue}
use Rattle.floats.specs.declared.FloatValue.TheVariants.{Number, NotANumber}

-- the float of given bits
abbrev pub float : ℕ → Binary32
float b = record { bits = b }

-- a NaN keeps its bits; every other pattern is a number
abbrev pub value_of : Binary32 → FloatValue
value_of x = cond (nan_bits binary32 x.bits) (NotANumber x.bits) (Number (of_bits binary32 x.bits))

abbrev pub bits_of : FloatValue → Binary32
bits_of (Number x) = float (to_bits binary32 x)
bits_of (NotANumber b) = float b
