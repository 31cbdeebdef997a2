-- The words that a text box has beyond the base, from OWN on, and back. Places are those of layout.rt.
use Rattle.std.specs.Prelude.{ℕ, cond, List, [], ◌∷◌, ◌++◌, get_or, None, Some}
use Rattle.flags.specs.Enums.{horizontal_of, horizontal_number, vertical_of, vertical_number, alignment_of, alignment_number}
use Rattle.flags.specs.declared.position.TextPosition.{TextPosition}
use Rattle.flags.specs.declared.text.TextPaneFlags.{TextPaneFlags}
use Rattle.floats.specs.declared.Binary32.{Binary32}
use Rattle.text_box_read.specs.declared.FontMeasure.{FontMeasure}
use Rattle.text_box_read.specs.declared.FontMeasure.TheVariants as measure
use Rattle.text_box_parts.specs.declared.Text.{Text}
use Rattle.text_box_parts.specs.declared.Text.TheVariants as text
use Rattle.text_box_read.specs.declared.TextBoxPane.{TextBoxPane}
use Rattle.flat.specs.Words.{flag_word, color_words, option_words, byte_at, half_at, flag_at, float_at, vector2_at, quadruple_at}
use Rattle.text_box_parts.specs.Parts.{Label, LineTable}

-- TEXT_BUFFER_SIZE, TEXT_LENGTH, TEXT_MATERIAL, FONT, ORIGIN, TEXT_ALIGNMENT
abbrev pub indices_words : TextBoxPane → List ℕ
indices_words x =
    x.text_buffer_size
    ∷ x.text_length
    ∷ x.material_index
    ∷ x.font_index
    ∷ horizontal_number x.text_origin.horizontal
    ∷ vertical_number x.text_origin.vertical
    ∷ alignment_number x.text_alignment
    ∷ []

-- TEXT_FLAGS: fourteen in field order
abbrev pub text_flags_words : TextPaneFlags → List ℕ
text_flags_words f =
    flag_word f.is_enable_shadow
    ∷ flag_word f.is_limit_glyph_count_to_length
    ∷ flag_word f.is_invisible_border
    ∷ flag_word f.is_double_border
    ∷ flag_word f.is_per_character_transform
    ∷ flag_word f.is_enable_center_ceiling
    ∷ flag_word f.is_line_transform
    ∷ flag_word f.is_default_tag_processor
    ∷ flag_word f.is_per_character_transform_split_by_char_width
    ∷ flag_word f.is_mix_shadow_alpha
    ∷ flag_word f.is_reverse
    ∷ flag_word f.is_per_character_transform_origin_to_center
    ∷ flag_word f.is_per_character_transform_fix_space
    ∷ flag_word f.is_per_character_transform_split_insert_space
    ∷ []

-- MEASURE_KIND, MEASURE
abbrev pub measure_words : FontMeasure → List ℕ
measure_words (measure.Size v) = 0 ∷ v.x.bits ∷ v.y.bits ∷ []
measure_words (measure.Scale v) = 1 ∷ v.x.bits ∷ v.y.bits ∷ []

-- the measure, ITALIC_TILT, FONT_TOP_COLOR, FONT_BOTTOM_COLOR
abbrev pub font_words : TextBoxPane → List ℕ
font_words x =
    measure_words x.font_measure
    ++ ((x.italic_tilt.bits ∷ []) ++ (color_words x.font_top_color ++ color_words x.font_bottom_color))

-- CHARACTER_SPACE, LINE_SPACE, SHADOW_TRANSLATION, SHADOW_SIZE, SHADOW_TOP_COLOR, SHADOW_BOTTOM_COLOR
abbrev pub shadow_words : TextBoxPane → List ℕ
shadow_words x =
    (x.character_space.bits
    ∷ x.line_space.bits
    ∷ x.shadow_translation.x.bits
    ∷ x.shadow_translation.y.bits
    ∷ x.shadow_size.x.bits
    ∷ x.shadow_size.y.bits
    ∷ [])
    ++ (color_words x.shadow_top_color ++ color_words x.shadow_bottom_color)

-- SHADOW_ITALIC_TILT, TEXT_PRESENT
abbrev pub text_words : Binary32 → Text → List ℕ
text_words tilt text.Absent = tilt.bits ∷ 0 ∷ []
text_words tilt text.Present = tilt.bits ∷ 1 ∷ []

-- LABEL_PRESENT, LABEL_PLACE, LABEL_LENGTH
abbrev pub label_words : Label → List ℕ
label_words None = 0 ∷ 0 ∷ 0 ∷ []
label_words (Some span) = 1 ∷ span.place ∷ span.length ∷ []

-- LINES_PRESENT, LINES_COUNT
abbrev pub lines_words : LineTable → List ℕ
lines_words x = option_words (λ count. count) x

abbrev pub parts_words : TextBoxPane → List ℕ
parts_words x = text_words x.shadow_italic_tilt x.text ++ (label_words x.label ++ lines_words x.line_table)

unfoldable pub text_box_words : TextBoxPane → List ℕ
text_box_words x = indices_words x ++ (text_flags_words x.text_flags ++ (font_words x ++ (shadow_words x ++ parts_words x)))

abbrev pub origin_at : List ℕ → TextPosition
origin_at w = record { horizontal = horizontal_of (byte_at w 66); vertical = vertical_of (byte_at w 67) }

abbrev pub text_flags_at : List ℕ → TextPaneFlags
text_flags_at w = record {
  is_enable_shadow = flag_at w 69;
  is_limit_glyph_count_to_length = flag_at w 70;
  is_invisible_border = flag_at w 71;
  is_double_border = flag_at w 72;
  is_per_character_transform = flag_at w 73;
  is_enable_center_ceiling = flag_at w 74;
  is_line_transform = flag_at w 75;
  is_default_tag_processor = flag_at w 76;
  is_per_character_transform_split_by_char_width = flag_at w 77;
  is_mix_shadow_alpha = flag_at w 78;
  is_reverse = flag_at w 79;
  is_per_character_transform_origin_to_center = flag_at w 80;
  is_per_character_transform_fix_space = flag_at w 81;
  is_per_character_transform_split_insert_space = flag_at w 82;
}

abbrev pub measure_at : List ℕ → FontMeasure
measure_at w = cond (flag_at w 83) (measure.Scale (vector2_at w 84)) (measure.Size (vector2_at w 84))

abbrev pub text_at : List ℕ → Text
text_at w = cond (flag_at w 110) text.Present text.Absent

-- place and length may be any numbers: a write does not read them
abbrev pub label_at : List ℕ → Label
label_at w = cond (flag_at w 111) (Some (record { place = get_or w 112 0; length = get_or w 113 0 })) None

-- the count by its low eight bits, whatever its word is: a write does not read it
abbrev pub lines_at : List ℕ → LineTable
lines_at w = cond (flag_at w 114) (Some (byte_at w 115)) None

unfoldable pub text_box_at : List ℕ → TextBoxPane
text_box_at w = record {
  text_buffer_size = half_at w 62;
  text_length = half_at w 63;
  material_index = half_at w 64;
  font_index = half_at w 65;
  text_origin = origin_at w;
  text_alignment = alignment_of (byte_at w 68);
  text_flags = text_flags_at w;
  italic_tilt = float_at w 86;
  font_top_color = quadruple_at w 87;
  font_bottom_color = quadruple_at w 91;
  font_measure = measure_at w;
  character_space = float_at w 95;
  line_space = float_at w 96;
  shadow_translation = vector2_at w 97;
  shadow_size = vector2_at w 99;
  shadow_top_color = quadruple_at w 101;
  shadow_bottom_color = quadruple_at w 105;
  shadow_italic_tilt = float_at w 109;
  text = text_at w;
  label = label_at w;
  line_table = lines_at w;
}
