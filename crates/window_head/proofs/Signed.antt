-- Signed numbers that the code passes on: by their bits, and back.
use mathlib.Core.Path.{◌≡◌, sym}
use Prim.Native.Nat.{ℕ}
use lib.IntN.{ℤ}
use mir.Syntax.{w16}
use mir.Val.{SFits, to_z, of_z}
use mir.Facts.{to_z-of_z}
use Rattle.core_read.specs.Bytes.{signed_of}

-- a number, as it is passed on
abbrev pub passed : ℤ → ℤ
passed z = to_z w16 (of_z w16 z)

pub kept : (n : ℕ) {z : ℤ} → z ≡ signed_of n → SFits w16 z → signed_of n ≡ passed z
kept n e fits = rw (to_z-of_z fits) (sym e)
