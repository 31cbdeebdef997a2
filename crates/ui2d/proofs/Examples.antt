-- Worked examples.
use mathlib.Core.Path.{◌≡◌, refl}
use mathlib.Core.List.{List, [], ◌∷◌}
use Prim.Native.Nat.{ℕ}
use lib.Ieee.{binary32, of_bits, nan_bits}
use Rattle.core_read.specs.Bytes.{bytes_of, number_at, le, part, spelled}
use Rattle.core_read.specs.declared.cursor.ByteOrder.TheVariants.{Little}
use Rattle.floats.specs.Floats.{float, value_of, bits_of}

-- group M: the float 01 00 80 7F comes back the same
abbrev bytes : List ℕ
bytes = 0x01 ∷ 0x00 ∷ 0x80 ∷ 0x7F ∷ []

pub float_back : bytes_of Little 4 (bits_of (value_of (float (number_at Little 4 bytes 0)))).bits ≡ bytes
unfolding nan_bits number_at bytes_of le part spelled
float_back = refl

-- why an f32 cannot be used: these two NaN patterns are one Float of the logic
pub same_nan : of_bits binary32 0x7F800001 ≡ of_bits binary32 0x7FC00000
unfolding of_bits
same_nan = refl
