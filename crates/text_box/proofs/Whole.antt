-- THE READ-BACK of a whole text box, and that what is read is equal to what was written.
use mathlib.Core.Path.{◌≡◌, refl, subst}
use Prim.Native.Nat.{ℕ, ◌+◌, ◌^◌, ◌≤◌, ◌<◌}
use native.Mathlib.Omega.{arith}
use mathlib.Core.List.{List, ◌++◌}
use lib.ListN.{length, length-append, length-replicate}
use Rattle.core_read.specs.Taken.{advanced, stop_if}
use Rattle.core_read.specs.declared.cursor.ByteOrder.{ByteOrder}
use Rattle.core_read.specs.declared.cursor.Cursor.{Cursor}
use Rattle.core_read.specs.Taken.{Taken}
use Rattle.core_read.proofs.Numbers.{length_bytes}
use Rattle.core_read.proofs.Cursors.{advanced_zero}
use Rattle.core_write.proofs.Padding.{padding_small}
use Rattle.core_read.proofs.Back.{Holds, split, holds_fits, length_all}
use Rattle.text_box_read.specs.declared.FontMeasure.{FontMeasure}
use Rattle.text_box_read.specs.declared.FontMeasure.TheVariants as measure
use Rattle.text_box_read.specs.declared.TextBoxPane.{TextBoxPane}
use Rattle.text_box_read.specs.declared.TextBoxFound.{TextBoxFound}
use Rattle.text_box_read.specs.TextBox.{measure_kind, measure_vector}
use Rattle.text_box_write.specs.Fixed.{encode_fixed}
use Rattle.text_box_parts.specs.Parts.{place_of, Part, absent, present, text_part, label_part, line_part, per_character_checked}
use Rattle.text_box_read.specs.TextBox.{font_measure_of, assembled, text_box_taken}
use Rattle.text_box_write.specs.Written.{Few, text_offset, part_offset, text_width, label_width, line_width, text_end, label_end, encode_text, encode_label, encode_lines, parts_encoded, parts_length, encode_text_box, text_box_length}
use Rattle.text_box_read.specs.Typed.{TypedTextBox}
use Rattle.text_box_write.proofs.Columns.{length_column}
use Rattle.text_box.proofs.Cleared.{GoodText, GoodLabel, GoodLines}
use Rattle.text_box.proofs.FixedBack.{length_fixed, FixedBack, fixed_back}
use Rattle.text_box.proofs.Back.{Bounded, Set, read_text, text_place, read_label, read_table, table_place, after_text, after_label, after_lines, pos_text, pos_label, pos_lines, reach_text, reach_label, reach_lines, text_back, label_read, lines_read}
use Rattle.utf8.proofs.Tests.{and_none}
use Rattle.std.specs.Prelude.{Ok}

-- ---- lengths

length_text : (order : ByteOrder) (found : Part) → length (encode_text order found) ≡ text_width found
length_text order absent = refl
length_text order (present u) = length_all order 2 u

length_label : (at : ℕ) (name : Part) → length (encode_label at name) ≡ label_width at name
length_label at absent = refl
length_label at (present b) = simp (length-append, length-replicate)

length_lines : (order : ByteOrder) (at : ℕ) (table : Part) → length (encode_lines order at table) ≡ line_width at table
length_lines order at absent = refl
length_lines order at (present l) = simp (length-append, length-replicate, length_bytes, length_all, length_column)

pub length_parts : (order : ByteOrder) (body : ℕ) (x : TextBoxPane) (found name table : Part)
    → length (parts_encoded order body x found name table) ≡ parts_length body found name table
length_parts order body x found name table =
    simp (length-append, length_fixed, length_text, length_label, length_lines)

pub length_text_box : (order : ByteOrder) (body : ℕ) (x : TextBoxPane) (units lines label : List ℕ)
    → length (encode_text_box order body x units lines label) ≡ text_box_length body x units lines label
unfolding encode_text_box text_box_length
length_text_box order body x units lines label =
    length_parts order body x (text_part x.text units) (label_part x.label label) (line_part x.line_table lines)

-- ---- the offsets fit

text_offset_small : (found : Part) → text_offset found < 256 ^ 4
text_offset_small absent = omega arith
text_offset_small (present u) = omega arith

offset_small : (at end : ℕ) (name : Part) → end < 2 ^ 31 → part_offset at end name < 256 ^ 4
offset_small at end absent h = omega arith
offset_small at end (present l) h = omega (arith, padding_small at)

text_width_small : (long : ℕ) (found : Part) → long < 256 ^ 2 → GoodText long found → text_width found ≤ 65534
text_width_small long absent h g = omega arith
text_width_small long (present u) h g = omega (arith, g.0)

label_width_small : (at : ℕ) (name : Part) → Few 16777216 name → label_width at name ≤ 16777220
label_width_small at absent g = omega arith
label_width_small at (present b) g = omega (arith, padding_small at)

-- ---- the read

-- what reading a text box that was written gives: the same fields, its parts by presence, with their places and counts
abbrev pub parts_back : ℕ → TextBoxPane → Part → Part → Part → TextBoxPane
parts_back body x found name table = record {
  text_buffer_size = x.text_buffer_size;
  text_length = x.text_length;
  material_index = x.material_index;
  font_index = x.font_index;
  text_origin = x.text_origin;
  text_alignment = x.text_alignment;
  text_flags = x.text_flags;
  italic_tilt = x.italic_tilt;
  font_top_color = x.font_top_color;
  font_bottom_color = x.font_bottom_color;
  font_measure = x.font_measure;
  character_space = x.character_space;
  line_space = x.line_space;
  shadow_translation = x.shadow_translation;
  shadow_size = x.shadow_size;
  shadow_top_color = x.shadow_top_color;
  shadow_bottom_color = x.shadow_bottom_color;
  shadow_italic_tilt = x.shadow_italic_tilt;
  text = read_text found;
  label = read_label (place_of body (text_end found)) name;
  line_table = read_table table;
}

-- where the run stands after the parts, from a cursor at B + 160
abbrev pub after_parts : ℕ → Cursor → Part → Part → Part → Cursor
after_parts body d found name table =
    after_lines body (after_label body (after_text body d found) (place_of body (text_end found)) name) (place_of body (label_end body found name)) table

pub pos_parts : (body : ℕ) (d : Cursor) → d.pos ≡ body + 160 → (found name table : Part) → (after_parts body d found name table).pos ≡ body + 160
pos_parts body d e found name table = pos_lines body _ (pos_label body _ (pos_text body d e found) _ name) _ table

-- it has looked at all that was written
pub reach_parts : (body : ℕ) (d : Cursor) → 8 ≤ body → d.reach ≡ body + 160 → (found name table : Part)
    → (after_parts body d found name table).reach ≡ body + 76 + parts_length body found name table
reach_parts body d low e found name table =
    let a = reach_text body d (place_of body 168) (omega (arith, e)) refl found in
    let b = reach_label body (after_text body d found) (place_of body (text_end found)) (omega (arith, a)) name in
    let t = reach_lines body (after_label body (after_text body d found) (place_of body (text_end found)) name) (place_of body (label_end body found name)) (omega (arith, b)) table in
    omega (arith, t)

abbrev pub parts_taken : ℕ → Cursor → TextBoxPane → Part → Part → Part → Taken TextBoxFound
parts_taken body c x found name table = record {
  value = record {
    text_box = parts_back body x found name table;
    text_place = text_place body found;
    lines_place = table_place (place_of body (label_end body found name)) table;
  };
  then = Ok (after_parts body (advanced c 84) found name table);
}

measure_back : (m : FontMeasure) → font_measure_of (measure_kind m) (measure_vector m) ≡ m
measure_back (measure.Size v) = refl
measure_back (measure.Scale v) = refl

module _ (s : List ℕ) (c : Cursor) (order : ByteOrder) (body : ℕ) (here : c.pos ≡ body + 76) (low : 8 ≤ body) (x : TextBoxPane) (t : TypedTextBox x)
    (found name table : Part) (gt : GoodText x.text_length found) (gs : Few 16777216 name) (gn : GoodLabel name) (gl : GoodLines table)
    (bit : Set table x.text_flags.is_line_transform) (bu : Bounded 2 found) (bl : Bounded 4 table)
    (a : Holds s c.pos (parts_encoded order body x found name table)) where
  -- where each part stands
  rest : Holds s c.pos (encode_fixed order x (text_offset found) (part_offset (place_of body (text_end found)) (text_end found) name)
      (part_offset (place_of body (label_end body found name)) (label_end body found name) table))
      × Holds s (c.pos + 84) (encode_text order found ++ (encode_label (place_of body (text_end found)) name ++ encode_lines order (place_of body (label_end body found name)) table))
  rest = split _ _ 84 (length_fixed order x _ _ _) a

  after : Holds s (c.pos + 84) (encode_text order found)
      × Holds s (c.pos + 84 + text_width found) (encode_label (place_of body (text_end found)) name ++ encode_lines order (place_of body (label_end body found name)) table)
  after = split _ _ (text_width found) (length_text order found) rest.1

  last : Holds s (c.pos + 84 + text_width found) (encode_label (place_of body (text_end found)) name)
      × Holds s (c.pos + 84 + text_width found + label_width (place_of body (text_end found)) name) (encode_lines order (place_of body (label_end body found name)) table)
  last = split _ _ (label_width (place_of body (text_end found)) name) (length_label (place_of body (text_end found)) name) after.1

  pub the_text : Holds s (place_of body 168) (encode_text order found)
  the_text =
      let e : c.pos + 84 ≡ place_of body 168 = omega arith in
      subst (λ (k : ℕ). Holds s k (encode_text order found)) e after.0

  pub the_label : Holds s (place_of body (text_end found)) (encode_label (place_of body (text_end found)) name)
  the_label =
      let e : c.pos + 84 + text_width found ≡ place_of body (text_end found) = omega arith in
      subst (λ (k : ℕ). Holds s k (encode_label (place_of body (text_end found)) name)) e last.0

  pub the_lines : Holds s (place_of body (label_end body found name)) (encode_lines order (place_of body (label_end body found name)) table)
  the_lines =
      let e : c.pos + 84 + text_width found + label_width (place_of body (text_end found)) name ≡ place_of body (label_end body found name) = omega arith in
      subst (λ (k : ℕ). Holds s k (encode_lines order (place_of body (label_end body found name)) table)) e last.1

  the_fixed : FixedBack s c order x (text_offset found) (part_offset (place_of body (text_end found)) (text_end found) name)
      (part_offset (place_of body (label_end body found name)) (label_end body found name) table)
  the_fixed =
      let w : text_width found ≤ 65534 = text_width_small x.text_length found t.long gt in
      let v : label_width (place_of body (text_end found)) name ≤ 16777220 = label_width_small (place_of body (text_end found)) name gs in
      let z : c.pos ≡ c.pos + 0 = omega arith in
      fixed_back c order x t _ _ _ (text_offset_small found)
      (offset_small (place_of body (text_end found)) (text_end found) name (omega arith))
      (offset_small (place_of body (label_end body found name)) (label_end body found name) table (omega arith))
      (subst (λ (k : ℕ). Holds s k (encode_fixed order x (text_offset found) (part_offset (place_of body (text_end found)) (text_end found) name)
      (part_offset (place_of body (label_end body found name)) (label_end body found name) table))) z rest.0)

  parts_from : text_box_taken order s (Ok (advanced c 0)) body ≡ parts_taken body c x found name table
  unfolding text_box_taken assembled per_character_checked stop_if
  parts_from =
      let d : Cursor = advanced c 84 in
      let f : body + 160 ≤ length s = omega (arith, holds_fits (encode_text order found) the_text) in
      rw (
        the_fixed.head,
        the_fixed.font,
        the_fixed.shadow,
        text_back s order body d low f x.text_length found gt bu the_text,
        label_read s order body (after_text body d found) low f (place_of body (text_end found)) (text_end found) refl (omega arith) name gn the_label,
        lines_read s order body (after_label body (after_text body d found) (place_of body (text_end found)) name) low f (place_of body (label_end body found name)) (label_end body found name) refl (omega arith)
            x.text_flags.is_line_transform table gl bit bl the_lines,
        and_none x.text_flags.is_per_character_transform,
        measure_back x.font_measure,
      )

  pub parts_read : text_box_taken order s (Ok c) body ≡ parts_taken body c x found name table
  parts_read = rw advanced_zero at parts_from
