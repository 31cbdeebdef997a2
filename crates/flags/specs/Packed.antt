-- A packed number: several small numbers side by side in the bits of one.
use Rattle.std.specs.Prelude.{ℕ, ◌+◌, ◌-◌, ◌*◌, ◌/◌, ◌%◌, ◌^◌, Bool, cond, List, [], ◌∷◌, eqb}

-- the number in bits `first` to `last` of `raw`, where bit 0 is the lowest
abbrev pub bits : ℕ → ℕ → ℕ → ℕ
bits raw first last = raw / 2 ^ first % 2 ^ (last + 1 - first)

-- a flag is false at 0 and true at 1
abbrev pub flag_of : ℕ → Bool
flag_of n = eqb n 1

abbrev pub flag_number : Bool → ℕ
flag_number b = cond b 1 0

-- the flag in bit `place` of `raw`
abbrev pub bit : ℕ → ℕ → Bool
bit raw place = flag_of (bits raw place place)

-- a number, and how many bits it is given
pub record Digit : Type 0 where
  pub width : ℕ
  pub value : ℕ

abbrev pub digit : ℕ → ℕ → Digit
digit width value = record { width = width; value = value }

abbrev pub flag : Bool → Digit
flag b = digit 1 (flag_number b)

-- digits side by side, the lowest first
unfoldable pub pack : List Digit → ℕ
pack [] = 0
pack (d ∷ ds) = pack ds * 2 ^ d.width + d.value
