-- The packed fields: what each byte or number holds, and the byte or number that is written.
use Rattle.std.specs.Prelude.{ℕ, ◌%◌, Bool, List, [], ◌∷◌, map}
use Rattle.flags.specs.Packed.{bits, bit, Digit, digit, flag, pack}
use Rattle.flags.specs.Enums.{horizontal_of, horizontal_number, vertical_of, vertical_number, window_kind_of, window_kind_number, measure_of, measure_flag}
use Rattle.flags.specs.declared.position.BflytPosition.{BflytPosition}
use Rattle.flags.specs.declared.position.TextPosition.{TextPosition}
use Rattle.flags.specs.declared.pane.PaneFlags.{PaneFlags}
use Rattle.flags.specs.declared.pane.PaneFlagsEx.{PaneFlagsEx}
use Rattle.flags.specs.declared.text.FontMeasureKind.{FontMeasureKind}
use Rattle.flags.specs.declared.text.TextPaneFlags.{TextPaneFlags}
use Rattle.flags.specs.declared.text.TextFlagsWord.{TextFlagsWord}
use Rattle.flags.specs.declared.window.WindowFlags.{WindowFlags}

-- position byte: x bits 0-1, y 2-3, parent x 4-5, parent y 6-7
unfoldable pub position_of : ℕ → BflytPosition
position_of raw = record {
  position_x = horizontal_of (bits raw 0 1);
  position_y = vertical_of (bits raw 2 3);
  parent_relative_position_x = horizontal_of (bits raw 4 5);
  parent_relative_position_y = vertical_of (bits raw 6 7);
}

-- the same digits, the lowest first
abbrev pub position_digits : BflytPosition → List Digit
position_digits p =
    digit 2 (horizontal_number p.position_x)
    ∷ digit 2 (vertical_number p.position_y)
    ∷ digit 2 (horizontal_number p.parent_relative_position_x)
    ∷ digit 2 (vertical_number p.parent_relative_position_y)
    ∷ []

-- the byte that is written
unfoldable pub position_number : BflytPosition → ℕ
position_number p = pack (position_digits p)

-- text origin: vertical 0-1, horizontal 2-3, rest dropped
unfoldable pub origin_of : ℕ → TextPosition
origin_of raw = record { horizontal = horizontal_of (bits raw 2 3); vertical = vertical_of (bits raw 0 1) }

-- the same digits, the lowest first
abbrev pub origin_digits : TextPosition → List Digit
origin_digits o =
    digit 2 (vertical_number o.vertical) ∷ digit 2 (horizontal_number o.horizontal) ∷ []

-- the byte that is written
unfoldable pub origin_number : TextPosition → ℕ
origin_number o = pack (origin_digits o)

-- pane flags: one bit each in field order
unfoldable pub pane_flags_of : ℕ → PaneFlags
pane_flags_of raw = record {
  is_visible = bit raw 0;
  influenced_alpha = bit raw 1;
  location_adjust = bit raw 2;
  user_allocated = bit raw 3;
  is_global_matrix_dirty = bit raw 4;
  is_srt_matrix_user = bit raw 5;
  is_global_matrix_user = bit raw 6;
  is_constant_buffer_ready = bit raw 7;
}

-- the same bits, the lowest first
abbrev pub pane_flags_bits : PaneFlags → List Bool
pane_flags_bits f =
    f.is_visible
    ∷ f.influenced_alpha
    ∷ f.location_adjust
    ∷ f.user_allocated
    ∷ f.is_global_matrix_dirty
    ∷ f.is_srt_matrix_user
    ∷ f.is_global_matrix_user
    ∷ f.is_constant_buffer_ready
    ∷ []

-- the byte that is written
unfoldable pub pane_flags_number : PaneFlags → ℕ
pane_flags_number f = pack (map flag (pane_flags_bits f))

-- flag_ex: three bits, then reserve0 in five
unfoldable pub flag_ex_of : ℕ → PaneFlagsEx
flag_ex_of raw = record {
  is_no_scale_by_parts = bit raw 0;
  is_scale_size_by_parts_root = bit raw 1;
  is_ext_user_data = bit raw 2;
  reserve0 = bits raw 3 7;
}

-- the same digits, the lowest first; of a larger reserve0 the low five bits
abbrev pub flag_ex_digits : PaneFlagsEx → List Digit
flag_ex_digits f =
    flag f.is_no_scale_by_parts
    ∷ flag f.is_scale_size_by_parts_root
    ∷ flag f.is_ext_user_data
    ∷ digit 5 (f.reserve0 % 32)
    ∷ []

-- the byte that is written
unfoldable pub flag_ex_number : PaneFlagsEx → ℕ
flag_ex_number f = pack (flag_ex_digits f)

-- text flags: one bit each in field order; bit 12 is the font measure's kind; bit 15 dropped
unfoldable pub text_flags_of : ℕ → TextFlagsWord
text_flags_of raw = record {
  flags = record {
    is_enable_shadow = bit raw 0;
    is_limit_glyph_count_to_length = bit raw 1;
    is_invisible_border = bit raw 2;
    is_double_border = bit raw 3;
    is_per_character_transform = bit raw 4;
    is_enable_center_ceiling = bit raw 5;
    is_line_transform = bit raw 6;
    is_default_tag_processor = bit raw 7;
    is_per_character_transform_split_by_char_width = bit raw 8;
    is_mix_shadow_alpha = bit raw 9;
    is_reverse = bit raw 10;
    is_per_character_transform_origin_to_center = bit raw 11;
    is_per_character_transform_fix_space = bit raw 13;
    is_per_character_transform_split_insert_space = bit raw 14;
  };
  measure = measure_of (bit raw 12);
}

-- the same bits, the lowest first
abbrev pub text_flags_bits : TextPaneFlags → FontMeasureKind → List Bool
text_flags_bits f measure =
    f.is_enable_shadow
    ∷ f.is_limit_glyph_count_to_length
    ∷ f.is_invisible_border
    ∷ f.is_double_border
    ∷ f.is_per_character_transform
    ∷ f.is_enable_center_ceiling
    ∷ f.is_line_transform
    ∷ f.is_default_tag_processor
    ∷ f.is_per_character_transform_split_by_char_width
    ∷ f.is_mix_shadow_alpha
    ∷ f.is_reverse
    ∷ f.is_per_character_transform_origin_to_center
    ∷ measure_flag measure
    ∷ f.is_per_character_transform_fix_space
    ∷ f.is_per_character_transform_split_insert_space
    ∷ []

-- the number that is written
unfoldable pub text_flags_number : TextPaneFlags → FontMeasureKind → ℕ
text_flags_number f measure = pack (map flag (text_flags_bits f measure))

-- window flags: bits 0, 1, kind 2-3, not-draw 4, rest dropped
unfoldable pub window_flags_of : ℕ → WindowFlags
window_flags_of raw = record {
  use_left_corner_material = bit raw 0;
  use_vertex_color_for_all_window = bit raw 1;
  window_kind = window_kind_of (bits raw 2 3);
  not_draw_content = bit raw 4;
}

-- the same digits, the lowest first
abbrev pub window_flags_digits : WindowFlags → List Digit
window_flags_digits f =
    flag f.use_left_corner_material
    ∷ flag f.use_vertex_color_for_all_window
    ∷ digit 2 (window_kind_number f.window_kind)
    ∷ flag f.not_draw_content
    ∷ []

-- the byte that is written
unfoldable pub window_flags_number : WindowFlags → ℕ
window_flags_number f = pack (window_flags_digits f)
