-- Each enum comes back from its number, and its numbers are bounded.
use mathlib.Core.Path.{◌≡◌, refl}
use Prim.Native.Nat.{ℕ, zero, suc, ◌≤◌}
use native.Mathlib.Nat.{suc-ne-zero, not-suc-le-zero, le_of_suc-le-suc}
use native.Mathlib.Omega.{arith}
use mathlib.Core.List.{List, [], ◌∷◌, ◌++◌}
use lib.ListN.{length, get_or, get_or-eq_default}
use Rattle.flags.specs.Enums.{horizontal_of, horizontal_number, vertical_of, vertical_number, window_kind_of, window_kind_number, flip_of, flip_number, alignment_of, alignment_number, measure_of, measure_flag}
use Rattle.flags.specs.declared.position.HorizontalPosition.{HorizontalPosition}
use Rattle.flags.specs.declared.position.HorizontalPosition.TheVariants as horizontal
use Rattle.flags.specs.declared.position.VerticalPosition.{VerticalPosition}
use Rattle.flags.specs.declared.position.VerticalPosition.TheVariants as vertical
use Rattle.flags.specs.declared.window.WindowKind.{WindowKind}
use Rattle.flags.specs.declared.window.WindowKind.TheVariants as kind
use Rattle.flags.specs.declared.window.TextureFlip.{TextureFlip}
use Rattle.flags.specs.declared.window.TextureFlip.TheVariants as flip
use Rattle.flags.specs.declared.text.TextAlignment.{TextAlignment}
use Rattle.flags.specs.declared.text.TextAlignment.TheVariants as alignment
use Rattle.flags.specs.declared.text.FontMeasureKind.{FontMeasureKind}
use Rattle.flags.specs.declared.text.FontMeasureKind.TheVariants as measure

-- ---- unknown numbers

-- a number that is 0, or past the list, reads as the first
pub unknown_first : {A : Type 0} (a : A) (xs : List A) (n : ℕ) → (n ≤ length xs → n ≡ 0) → get_or (a ∷ xs) n a ≡ a
unknown_first a xs zero h = refl
unknown_first a xs (suc n) h =
    let no : suc n ≤ length xs → ⊥ = λ g. suc-ne-zero n (h g) in
    get_or-eq_default xs a {n = n} (omega arith)

-- a number that is that of the last, or past the list, reads as the last
pub unknown_last : {A : Type 0} (xs : List A) (a : A) (n : ℕ) → length xs ≤ n → get_or (xs ++ a ∷ []) n a ≡ a
unknown_last [] a zero h = refl
unknown_last [] a (suc n) h = refl
unknown_last (x ∷ xs) a zero h = absurd (not-suc-le-zero h)
unknown_last (x ∷ xs) a (suc n) h = unknown_last xs a n (le_of_suc-le-suc h)

-- ---- there and back

pub horizontal_back : (x : HorizontalPosition) → horizontal_of (horizontal_number x) ≡ x
horizontal_back horizontal.Center = refl
horizontal_back horizontal.Left = refl
horizontal_back horizontal.Right = refl

pub horizontal_le : (x : HorizontalPosition) → horizontal_number x ≤ 2
horizontal_le horizontal.Center = omega arith
horizontal_le horizontal.Left = omega arith
horizontal_le horizontal.Right = omega arith

pub vertical_back : (x : VerticalPosition) → vertical_of (vertical_number x) ≡ x
vertical_back vertical.Center = refl
vertical_back vertical.Top = refl
vertical_back vertical.Bottom = refl

pub vertical_le : (x : VerticalPosition) → vertical_number x ≤ 2
vertical_le vertical.Center = omega arith
vertical_le vertical.Top = omega arith
vertical_le vertical.Bottom = omega arith

pub window_kind_back : (x : WindowKind) → window_kind_of (window_kind_number x) ≡ x
window_kind_back kind.Around = refl
window_kind_back kind.Horizontal = refl
window_kind_back kind.HorizontalNoContent = refl

pub window_kind_le : (x : WindowKind) → window_kind_number x ≤ 2
window_kind_le kind.Around = omega arith
window_kind_le kind.Horizontal = omega arith
window_kind_le kind.HorizontalNoContent = omega arith

pub flip_back : (x : TextureFlip) → flip_of (flip_number x) ≡ x
flip_back flip.None = refl
flip_back flip.FlipU = refl
flip_back flip.FlipV = refl
flip_back flip.Rotate90 = refl
flip_back flip.Rotate180 = refl
flip_back flip.Rotate270 = refl

pub flip_le : (x : TextureFlip) → flip_number x ≤ 5
flip_le flip.None = omega arith
flip_le flip.FlipU = omega arith
flip_le flip.FlipV = omega arith
flip_le flip.Rotate90 = omega arith
flip_le flip.Rotate180 = omega arith
flip_le flip.Rotate270 = omega arith

pub alignment_back : (x : TextAlignment) → alignment_of (alignment_number x) ≡ x
alignment_back alignment.Synchronous = refl
alignment_back alignment.Left = refl
alignment_back alignment.Center = refl
alignment_back alignment.Right = refl

pub alignment_le : (x : TextAlignment) → alignment_number x ≤ 3
alignment_le alignment.Synchronous = omega arith
alignment_le alignment.Left = omega arith
alignment_le alignment.Center = omega arith
alignment_le alignment.Right = omega arith

pub measure_back : (x : FontMeasureKind) → measure_of (measure_flag x) ≡ x
measure_back measure.Size = refl
measure_back measure.Scale = refl
