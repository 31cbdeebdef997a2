-- A text box beyond the base: its read, and the blank one.
use Rattle.std.specs.Prelude.{ℕ, ◌+◌, ◌*◌, ◌/◌, ◌≤◌, ◌≡◌, List, length, None, Some}
use Rattle.core_read.specs.Lists.{numbers_at}
use Rattle.core_read.specs.declared.cursor.ByteOrder.{ByteOrder}
use Rattle.core_read.specs.Taken.{Taken}
use Rattle.flags.specs.Fields.{origin_of, text_flags_of}
use Rattle.flags.specs.declared.text.FontMeasureKind.{FontMeasureKind}
use Rattle.flags.specs.declared.text.FontMeasureKind.TheVariants as kind
use Rattle.flags.specs.declared.text.TextAlignment.TheVariants as alignment
use Rattle.flags.specs.declared.text.TextPaneFlags.{TextPaneFlags}
use Rattle.floats.specs.Floats.{float}
use Rattle.ui2d.specs.declared.Vector2f.{Vector2f}
use Rattle.ui2d.specs.declared.Color4u8.{Color4u8}
use Rattle.text_box_read.specs.declared.FontMeasure.{FontMeasure}
use Rattle.text_box_read.specs.declared.FontMeasure.TheVariants as measure
use Rattle.text_box_parts.specs.declared.Text.{Text}
use Rattle.text_box_parts.specs.declared.Text.TheVariants as text
use Rattle.text_box_read.specs.declared.TextBoxPane.{TextBoxPane}
use Rattle.text_box_read.specs.declared.TextBoxFound.{TextBoxFound}
use Rattle.text_box_fixed.specs.declared.fixed.TextHead.{TextHead}
use Rattle.text_box_fixed.specs.declared.fixed.TextFont.{TextFont}
use Rattle.text_box_fixed.specs.declared.fixed.TextShadow.{TextShadow}
use Rattle.text_box_parts.specs.declared.parts.TextFound.{TextFound}
use Rattle.text_box_parts.specs.declared.parts.LinesFound.{LinesFound}
use Rattle.text_box_fixed.specs.Fixed.{head_taken, font_taken, shadow_taken}
use Rattle.text_box_parts.specs.Parts.{text_taken, label_taken, lines_taken, per_character_checked, units_of, lines_of, Label, LineTable}
use Rattle.core_read.specs.Taken.{Place}

-- flag bit 12 decides whether the two floats are a font size or a scale; the record holds one or the other, and no flag
abbrev pub font_measure_of : FontMeasureKind → Vector2f → FontMeasure
font_measure_of kind.Size v = measure.Size v
font_measure_of kind.Scale v = measure.Scale v

-- which of the two the font measure is, for flag bit 12, and its two floats
abbrev pub measure_kind : FontMeasure → FontMeasureKind
measure_kind (measure.Size v) = kind.Size
measure_kind (measure.Scale v) = kind.Scale

abbrev pub measure_vector : FontMeasure → Vector2f
measure_vector (measure.Size v) = v
measure_vector (measure.Scale v) = v

-- the record of what was read
unfoldable pub assembled : TextHead → TextFont → TextShadow → Text → Label → LineTable → TextBoxPane
assembled head font shadow found name table = record {
  text_buffer_size = head.text_buffer_size;
  text_length = head.text_length;
  material_index = head.material_index;
  font_index = head.font_index;
  text_origin = head.text_origin;
  text_alignment = head.text_alignment;
  text_flags = head.word.flags;
  italic_tilt = head.italic_tilt;
  font_top_color = font.top_color;
  font_bottom_color = font.bottom_color;
  font_measure = font_measure_of head.word.measure font.measure;
  character_space = font.character_space;
  line_space = font.line_space;
  shadow_translation = shadow.translation;
  shadow_size = shadow.size;
  shadow_top_color = shadow.top_color;
  shadow_bottom_color = shadow.bottom_color;
  shadow_italic_tilt = shadow.italic_tilt;
  text = found;
  label = name;
  line_table = table;
}

-- A READ, of a body at B, from the place p after the base: the fixed bytes; then, in this order, the text, the label, the line table, and check 6
unfoldable pub text_box_taken : ByteOrder → List ℕ → Place → ℕ → Taken TextBoxFound
text_box_taken order s p body =
    let head : Taken TextHead = head_taken order s p in
    let font : Taken TextFont = font_taken order s head.then in
    let shadow : Taken TextShadow = shadow_taken order s font.then in
    let bits : TextPaneFlags = head.value.word.flags in
    let found : Taken TextFound = text_taken order s shadow.then body font.value.text_offset head.value.text_length in
    let name : Taken Label = label_taken s found.then body font.value.label_offset in
    let table : Taken LinesFound = lines_taken order s name.then body bits.is_line_transform shadow.value.line_offset in
    record {
      value = record {
        text_box = assembled head.value font.value shadow.value found.value.text name.value table.value.table;
        text_place = found.value.place;
        lines_place = table.value.place;
      };
      then = per_character_checked table.then bits.is_per_character_transform shadow.value.per_character_offset;
    }

-- the numbers that it gives
abbrev pub text_box_units : ByteOrder → List ℕ → TextBoxFound → List ℕ
text_box_units order s t = units_of t.text_box.text (numbers_at order 2 (t.text_box.text_length / 2) s t.text_place)

abbrev pub text_box_lines : ByteOrder → List ℕ → TextBoxFound → List ℕ
text_box_lines order s t = lines_of order s t.text_box.line_table t.lines_place

-- these numbers stand in s
pub record Standing (s : List ℕ) (t : TextBoxFound) : Type 0 where
  pub units : t.text_box.text ≡ text.Present → t.text_place + 2 * (t.text_box.text_length / 2) ≤ length s
  pub lines : (count : ℕ) → t.text_box.line_table ≡ Some count → t.lines_place + 1 + 8 * count ≤ length s

abbrev zero2 : Vector2f
zero2 = record { x = float 0; y = float 0 }

abbrev zero4 : Color4u8
zero4 = record { r = 0; g = 0; b = 0; a = 0 }

-- the text box beside a refusal: numbers +0, first cases, false, absent
unfoldable pub blank_text_box : TextBoxPane
blank_text_box = record {
  text_buffer_size = 0;
  text_length = 0;
  material_index = 0;
  font_index = 0;
  text_origin = origin_of 0;
  text_alignment = alignment.Synchronous;
  text_flags = (text_flags_of 0).flags;
  italic_tilt = float 0;
  font_top_color = zero4;
  font_bottom_color = zero4;
  font_measure = measure.Size zero2;
  character_space = float 0;
  line_space = float 0;
  shadow_translation = zero2;
  shadow_size = zero2;
  shadow_top_color = zero4;
  shadow_bottom_color = zero4;
  shadow_italic_tilt = float 0;
  text = text.Absent;
  label = None;
  line_table = None;
}
