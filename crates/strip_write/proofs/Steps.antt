-- The steps of the section write, as the code takes them.
use mathlib.Core.Path.{◌≡◌, refl}
use Prim.Native.Nat.{ℕ, ◌+◌, ◌≤◌}
use native.Mathlib.Omega.{arith}
use Rattle.core_read.specs.Bytes.{le, bytes_of, padding}
use Rattle.core_read.specs.declared.cursor.ByteOrder.TheVariants.{Little}
use Rattle.strip_records.specs.Kinds.{letter_bytes, letters_of}
use Rattle.strip_write.specs.Write.{section_size}
use Rattle.strip_records.specs.declared.kind.Kind.{Kind}
use Rattle.strip_records.specs.declared.kind.Kind.TheVariants.{Pan1, Pic1, Txt1, Wnd1, Ali1}

pub letters_bytes : (k : Kind) → bytes_of Little 4 (letters_of k) ≡ letter_bytes k
unfolding bytes_of le letter_bytes
letters_bytes Pan1 = refl
letters_bytes Pic1 = refl
letters_bytes Txt1 = refl
letters_bytes Wnd1 = refl
letters_bytes Ali1 = refl

pub room : (n p m : ℕ) → p + section_size n ≤ m → p + 8 + n + padding n ≤ m
unfolding section_size
room n p m h = omega arith

pub size_parts : (n : ℕ) → 4 + (4 + (n + padding n)) ≡ section_size n
unfolding section_size
size_parts n = omega arith
