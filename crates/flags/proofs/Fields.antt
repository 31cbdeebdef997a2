-- Each packed field is read back as what was written, and fits its byte or its number of two bytes.
use mathlib.Core.Path.{◌≡◌, ap, ◌∙◌}
use Prim.Native.Nat.{ℕ, ◌%◌, ◌^◌, ◌≤◌, ◌<◌}
use native.Mathlib.Omega.{arith}
use mathlib.Core.List.{map}
use Rattle.flags.specs.Packed.{flag_of, flag}
use Rattle.flags.specs.Enums.{horizontal_of, vertical_of, window_kind_of, measure_of}
use Rattle.flags.specs.Fields.{position_of, position_digits, position_number, origin_of, origin_digits, origin_number, pane_flags_of, pane_flags_bits, pane_flags_number, flag_ex_of, flag_ex_digits, flag_ex_number, text_flags_of, text_flags_bits, text_flags_number, window_flags_of, window_flags_digits, window_flags_number}
use Rattle.flags.specs.declared.position.BflytPosition.{BflytPosition}
use Rattle.flags.specs.declared.position.TextPosition.{TextPosition}
use Rattle.flags.specs.declared.pane.PaneFlags.{PaneFlags}
use Rattle.flags.specs.declared.pane.PaneFlagsEx.{PaneFlagsEx}
use Rattle.flags.specs.declared.text.FontMeasureKind.{FontMeasureKind}
use Rattle.flags.specs.declared.text.TextPaneFlags.{TextPaneFlags}
use Rattle.flags.specs.declared.window.WindowFlags.{WindowFlags}
use Rattle.flags.proofs.Packed.{Fit, pack_fit, field_back, flag_back, flag_fit, flags_back, flags_fit}
use Rattle.flags.proofs.Enums.{horizontal_back, horizontal_le, vertical_back, vertical_le, window_kind_back, window_kind_le, measure_back}

two_bits : {n : ℕ} → n ≤ 2 → n < 2 ^ 2
two_bits h = omega arith

five_bits : (n : ℕ) → n % 32 < 2 ^ 5
five_bits n = omega arith

-- ---- position

position_digits_lem : (p : BflytPosition) → Fit (position_digits p)
position_digits_lem p = search (two_bits, horizontal_le, vertical_le)

pub position_fit : (p : BflytPosition) → position_number p < 256 ^ 1
unfolding position_number
position_fit p = pack_fit (position_digits p) (position_digits_lem p)

pub position_back : (p : BflytPosition) → position_of (position_number p) ≡ p
unfolding position_of position_number
position_back p i =
    let d : Fit (position_digits p) = position_digits_lem p in
    record {
      position_x = field_back horizontal_of (position_digits p) d 0 (horizontal_back p.position_x) i;
      position_y = field_back vertical_of (position_digits p) d 1 (vertical_back p.position_y) i;
      parent_relative_position_x = field_back horizontal_of (position_digits p) d 2 (horizontal_back p.parent_relative_position_x) i;
      parent_relative_position_y = field_back vertical_of (position_digits p) d 3 (vertical_back p.parent_relative_position_y) i;
    }

-- ---- origin

origin_digits_lem : (o : TextPosition) → Fit (origin_digits o)
origin_digits_lem o = search (two_bits, horizontal_le, vertical_le)

pub origin_fit : (o : TextPosition) → origin_number o < 256 ^ 1
unfolding origin_number
origin_fit o = omega (arith, pack_fit (origin_digits o) (origin_digits_lem o))

pub origin_back : (o : TextPosition) → origin_of (origin_number o) ≡ o
unfolding origin_of origin_number
origin_back o i =
    let d : Fit (origin_digits o) = origin_digits_lem o in
    record {
      vertical = field_back vertical_of (origin_digits o) d 0 (vertical_back o.vertical) i;
      horizontal = field_back horizontal_of (origin_digits o) d 1 (horizontal_back o.horizontal) i;
    }

-- ---- pane flags

pub pane_flags_fit : (f : PaneFlags) → pane_flags_number f < 256 ^ 1
unfolding pane_flags_number
pane_flags_fit f = pack_fit (map flag (pane_flags_bits f)) (flags_fit (pane_flags_bits f))

pub pane_flags_back : (f : PaneFlags) → pane_flags_of (pane_flags_number f) ≡ f
unfolding pane_flags_of pane_flags_number
pane_flags_back f i =
    record {
      is_visible = flags_back (pane_flags_bits f) 0 i;
      influenced_alpha = flags_back (pane_flags_bits f) 1 i;
      location_adjust = flags_back (pane_flags_bits f) 2 i;
      user_allocated = flags_back (pane_flags_bits f) 3 i;
      is_global_matrix_dirty = flags_back (pane_flags_bits f) 4 i;
      is_srt_matrix_user = flags_back (pane_flags_bits f) 5 i;
      is_global_matrix_user = flags_back (pane_flags_bits f) 6 i;
      is_constant_buffer_ready = flags_back (pane_flags_bits f) 7 i;
    }

-- ---- flag_ex

flag_ex_digits_lem : (f : PaneFlagsEx) → Fit (flag_ex_digits f)
flag_ex_digits_lem f = search (flag_fit, five_bits)

pub flag_ex_fit : (f : PaneFlagsEx) → flag_ex_number f < 256 ^ 1
unfolding flag_ex_number
flag_ex_fit f = pack_fit (flag_ex_digits f) (flag_ex_digits_lem f)

pub flag_ex_back : (f : PaneFlagsEx) → f.reserve0 ≤ 31 → flag_ex_of (flag_ex_number f) ≡ f
unfolding flag_ex_of flag_ex_number
flag_ex_back f h i =
    let d : Fit (flag_ex_digits f) = flag_ex_digits_lem f in
    let five : f.reserve0 % 32 ≡ f.reserve0 = omega arith in
    record {
      is_no_scale_by_parts = field_back flag_of (flag_ex_digits f) d 0 (flag_back f.is_no_scale_by_parts) i;
      is_scale_size_by_parts_root = field_back flag_of (flag_ex_digits f) d 1 (flag_back f.is_scale_size_by_parts_root) i;
      is_ext_user_data = field_back flag_of (flag_ex_digits f) d 2 (flag_back f.is_ext_user_data) i;
      reserve0 = field_back (λ (n : ℕ). n) (flag_ex_digits f) d 3 five i;
    }

-- what is read is never above 31
pub flag_ex_reserve : (raw : ℕ) → (flag_ex_of raw).reserve0 ≤ 31
unfolding flag_ex_of
flag_ex_reserve raw = omega arith

-- ---- text flags

pub text_flags_fit : (f : TextPaneFlags) (m : FontMeasureKind) → text_flags_number f m < 256 ^ 2
unfolding text_flags_number
text_flags_fit f m = omega (arith, pack_fit (map flag (text_flags_bits f m)) (flags_fit (text_flags_bits f m)))

pub text_flags_back : (f : TextPaneFlags) (m : FontMeasureKind) → text_flags_of (text_flags_number f m) ≡ record { flags = f; measure = m }
unfolding text_flags_of text_flags_number
text_flags_back f m i =
    record {
      flags = record {
        is_enable_shadow = flags_back (text_flags_bits f m) 0 i;
        is_limit_glyph_count_to_length = flags_back (text_flags_bits f m) 1 i;
        is_invisible_border = flags_back (text_flags_bits f m) 2 i;
        is_double_border = flags_back (text_flags_bits f m) 3 i;
        is_per_character_transform = flags_back (text_flags_bits f m) 4 i;
        is_enable_center_ceiling = flags_back (text_flags_bits f m) 5 i;
        is_line_transform = flags_back (text_flags_bits f m) 6 i;
        is_default_tag_processor = flags_back (text_flags_bits f m) 7 i;
        is_per_character_transform_split_by_char_width = flags_back (text_flags_bits f m) 8 i;
        is_mix_shadow_alpha = flags_back (text_flags_bits f m) 9 i;
        is_reverse = flags_back (text_flags_bits f m) 10 i;
        is_per_character_transform_origin_to_center = flags_back (text_flags_bits f m) 11 i;
        is_per_character_transform_fix_space = flags_back (text_flags_bits f m) 13 i;
        is_per_character_transform_split_insert_space = flags_back (text_flags_bits f m) 14 i;
      };
      measure = (ap measure_of (flags_back (text_flags_bits f m) 12) ∙ measure_back m) i;
    }

-- ---- window flags

window_flags_digits_lem : (f : WindowFlags) → Fit (window_flags_digits f)
window_flags_digits_lem f = search (flag_fit, two_bits, window_kind_le)

pub window_flags_fit : (f : WindowFlags) → window_flags_number f < 256 ^ 1
unfolding window_flags_number
window_flags_fit f = omega (arith, pack_fit (window_flags_digits f) (window_flags_digits_lem f))

pub window_flags_back : (f : WindowFlags) → window_flags_of (window_flags_number f) ≡ f
unfolding window_flags_of window_flags_number
window_flags_back f i =
    let d : Fit (window_flags_digits f) = window_flags_digits_lem f in
    record {
      use_left_corner_material = field_back flag_of (window_flags_digits f) d 0 (flag_back f.use_left_corner_material) i;
      use_vertex_color_for_all_window = field_back flag_of (window_flags_digits f) d 1 (flag_back f.use_vertex_color_for_all_window) i;
      window_kind = field_back window_kind_of (window_flags_digits f) d 2 (window_kind_back f.window_kind) i;
      not_draw_content = field_back flag_of (window_flags_digits f) d 3 (flag_back f.not_draw_content) i;
    }
