-- The enums. Numbers in enum order from 0; an unknown number reads as the first, but for alignment as Right.
use Rattle.std.specs.Prelude.{ℕ, Bool, true, false, cond, [], ◌∷◌, get_or}
use Rattle.flags.specs.declared.position.HorizontalPosition.{HorizontalPosition}
use Rattle.flags.specs.declared.position.HorizontalPosition.TheVariants as horizontal
use Rattle.flags.specs.declared.position.VerticalPosition.{VerticalPosition}
use Rattle.flags.specs.declared.position.VerticalPosition.TheVariants as vertical
use Rattle.flags.specs.declared.window.WindowKind.{WindowKind}
use Rattle.flags.specs.declared.window.WindowKind.TheVariants as kind
use Rattle.flags.specs.declared.window.TextureFlip.{TextureFlip}
use Rattle.flags.specs.declared.window.TextureFlip.TheVariants as flip
use Rattle.flags.specs.declared.text.TextAlignment.{TextAlignment}
use Rattle.flags.specs.declared.text.TextAlignment.TheVariants as alignment
use Rattle.flags.specs.declared.text.FontMeasureKind.{FontMeasureKind}
use Rattle.flags.specs.declared.text.FontMeasureKind.TheVariants as measure

-- ---- from a number

-- horizontal: Center, Left, Right
abbrev pub horizontal_of : ℕ → HorizontalPosition
horizontal_of n = get_or (horizontal.Center ∷ horizontal.Left ∷ horizontal.Right ∷ []) n horizontal.Center

-- vertical: Center, Top, Bottom
abbrev pub vertical_of : ℕ → VerticalPosition
vertical_of n = get_or (vertical.Center ∷ vertical.Top ∷ vertical.Bottom ∷ []) n vertical.Center

-- window kind: Around, Horizontal, HorizontalNoContent
abbrev pub window_kind_of : ℕ → WindowKind
window_kind_of n = get_or (kind.Around ∷ kind.Horizontal ∷ kind.HorizontalNoContent ∷ []) n kind.Around

-- flip: None, FlipU, FlipV, Rotate90, Rotate180, Rotate270
abbrev pub flip_of : ℕ → TextureFlip
flip_of n = get_or (flip.None ∷ flip.FlipU ∷ flip.FlipV ∷ flip.Rotate90 ∷ flip.Rotate180 ∷ flip.Rotate270 ∷ []) n flip.None

-- alignment: Synchronous, Left, Center, Right; an unknown number reads as Right
abbrev pub alignment_of : ℕ → TextAlignment
alignment_of n = get_or (alignment.Synchronous ∷ alignment.Left ∷ alignment.Center ∷ alignment.Right ∷ []) n alignment.Right

-- the font measure is a scale where the flag is set, else a size
abbrev pub measure_of : Bool → FontMeasureKind
measure_of b = cond b measure.Scale measure.Size

-- ---- to a number

abbrev pub horizontal_number : HorizontalPosition → ℕ
horizontal_number horizontal.Center = 0
horizontal_number horizontal.Left = 1
horizontal_number horizontal.Right = 2

abbrev pub vertical_number : VerticalPosition → ℕ
vertical_number vertical.Center = 0
vertical_number vertical.Top = 1
vertical_number vertical.Bottom = 2

abbrev pub window_kind_number : WindowKind → ℕ
window_kind_number kind.Around = 0
window_kind_number kind.Horizontal = 1
window_kind_number kind.HorizontalNoContent = 2

abbrev pub flip_number : TextureFlip → ℕ
flip_number flip.None = 0
flip_number flip.FlipU = 1
flip_number flip.FlipV = 2
flip_number flip.Rotate90 = 3
flip_number flip.Rotate180 = 4
flip_number flip.Rotate270 = 5

abbrev pub alignment_number : TextAlignment → ℕ
alignment_number alignment.Synchronous = 0
alignment_number alignment.Left = 1
alignment_number alignment.Center = 2
alignment_number alignment.Right = 3

abbrev pub measure_flag : FontMeasureKind → Bool
measure_flag measure.Size = false
measure_flag measure.Scale = true
