-- Worked examples of the packed fields, by computation. Bytes and numbers are hexadecimal.
use mathlib.Core.Path.{◌≡◌, refl}
use mathlib.Core.Bool.{false}
use Rattle.flags.specs.Packed.{pack}
use Rattle.flags.specs.Enums.{alignment_of, alignment_number, flip_of, flip_number}
use Rattle.flags.specs.Fields.{position_of, position_number, origin_of, origin_number, flag_ex_of, flag_ex_number, text_flags_of, text_flags_number, window_flags_of, window_flags_number}
use Rattle.flags.specs.declared.position.HorizontalPosition.TheVariants as horizontal
use Rattle.flags.specs.declared.position.VerticalPosition.TheVariants as vertical
use Rattle.flags.specs.declared.text.FontMeasureKind.TheVariants as measure
use Rattle.flags.specs.declared.window.WindowKind.TheVariants as kind

-- window flags EC: Around, all false, writes 00; 19 writes 19
pub window_flags : (window_flags_of 0xEC
    ≡ record { use_left_corner_material = false; use_vertex_color_for_all_window = false; window_kind = kind.Around; not_draw_content = false })
    × (window_flags_number (window_flags_of 0xEC) ≡ 0x00)
    × (window_flags_number (window_flags_of 0x19) ≡ 0x19)
unfolding window_flags_of window_flags_number pack
window_flags = (refl, refl, refl)

-- position 59: Left, Bottom, Left, Top; FF: all Center, writes 00
pub position : (position_of 0x59
    ≡ record { position_x = horizontal.Left; position_y = vertical.Bottom; parent_relative_position_x = horizontal.Left; parent_relative_position_y = vertical.Top })
    × (position_of 0xFF
    ≡ record { position_x = horizontal.Center; position_y = vertical.Center; parent_relative_position_x = horizontal.Center; parent_relative_position_y = vertical.Center })
    × (position_number (position_of 0xFF) ≡ 0x00)
unfolding position_of position_number pack
position = (refl, refl, refl)

-- origin F9: Right, Top, writes 09
pub origin : (origin_of 0xF9 ≡ record { horizontal = horizontal.Right; vertical = vertical.Top })
    × (origin_number (origin_of 0xF9) ≡ 0x09)
unfolding origin_of origin_number pack
origin = (refl, refl)

-- alignment 04 writes 03; flip 06 writes 00
pub alignment_and_flip : (alignment_number (alignment_of 0x04) ≡ 0x03) × (flip_number (flip_of 0x06) ≡ 0x00)
alignment_and_flip = (refl, refl)

-- flag_ex FF: reserve0 31, writes FF
pub flag_ex : ((flag_ex_of 0xFF).reserve0 ≡ 31) × (flag_ex_number (flag_ex_of 0xFF) ≡ 0xFF)
unfolding flag_ex_of flag_ex_number pack
flag_ex = (refl, refl)

-- text flags, the number 9000: scale, writes 1000
pub text_flags : ((text_flags_of 0x9000).measure ≡ measure.Scale)
    × (text_flags_number (text_flags_of 0x9000).flags (text_flags_of 0x9000).measure ≡ 0x1000)
unfolding text_flags_of text_flags_number pack
text_flags = (refl, refl)
