-- The bytes of a text box beyond the base. A part's padding goes by its absolute place.
use Rattle.std.specs.Prelude.{ℕ, ◌+◌, ◌*◌, ◌/◌, ◌≤◌, List, [], ◌∷◌, ◌++◌, length, replicate}
use Rattle.core_read.specs.Bytes.{bytes_of, bytes_of_all, padding}
use Rattle.core_read.specs.declared.cursor.ByteOrder.{ByteOrder}
use Rattle.text_box_read.specs.declared.TextBoxPane.{TextBoxPane}
use Rattle.text_box_write.specs.declared.write.Layout.{Layout}
use Rattle.text_box_write.specs.Fixed.{encode_fixed}
use Rattle.text_box_parts.specs.Parts.{place_of, Part, absent, present, text_part, label_part, line_part, column}

-- ---- widths: an absent part has no bytes and no aligning

abbrev pub text_width : Part → ℕ
text_width absent = 0
text_width (present units) = 2 * length units

-- a label with its NUL, aligned from a place
abbrev pub label_width : ℕ → Part → ℕ
label_width at absent = 0
label_width at (present bytes) = padding at + (length bytes + 1)

-- a line table: count, offsets, widths
abbrev pub line_width : ℕ → Part → ℕ
line_width at absent = 0
line_width at (present l) = padding at + (1 + (4 * (length l / 2) + 4 * (length l / 2)))

-- ---- offsets: an absent part gets 0

abbrev pub text_offset : Part → ℕ
text_offset absent = 0
text_offset (present units) = 168

-- of a part that is aligned from a place with the offset end
abbrev pub part_offset : ℕ → ℕ → Part → ℕ
part_offset at end absent = 0
part_offset at end (present l) = end + padding at

-- ---- bytes

abbrev pub encode_text : ByteOrder → Part → List ℕ
encode_text order absent = []
encode_text order (present units) = bytes_of_all order 2 units

abbrev pub encode_label : ℕ → Part → List ℕ
encode_label at absent = []
encode_label at (present bytes) = replicate (padding at) 0 ++ (bytes ++ (0 ∷ []))

abbrev pub encode_lines : ByteOrder → ℕ → Part → List ℕ
encode_lines order at absent = []
encode_lines order at (present l) =
    replicate (padding at) 0
    ++ (bytes_of order 1 (length l / 2) ++ (bytes_of_all order 4 (column l 0 (length l / 2)) ++ bytes_of_all order 4 (column l 1 (length l / 2))))

-- ---- the whole, of a body at B: where text and label end, as offsets

abbrev pub text_end : Part → ℕ
text_end found = 168 + text_width found

abbrev pub label_end : ℕ → Part → Part → ℕ
label_end body found name = text_end found + label_width (place_of body (text_end found)) name

-- text at offset 168, then aligns and writes label with NUL, aligns and writes lines
abbrev pub parts_encoded : ByteOrder → ℕ → TextBoxPane → Part → Part → Part → List ℕ
parts_encoded order body x found name table =
    encode_fixed order x (text_offset found) (part_offset (place_of body (text_end found)) (text_end found) name)
    (part_offset (place_of body (label_end body found name)) (label_end body found name) table)
    ++ (encode_text order found
    ++ (encode_label (place_of body (text_end found)) name
    ++ encode_lines order (place_of body (label_end body found name)) table))

unfoldable pub encode_text_box : ByteOrder → ℕ → TextBoxPane → List ℕ → List ℕ → List ℕ → List ℕ
encode_text_box order body x units lines label =
    parts_encoded order body x (text_part x.text units) (label_part x.label label) (line_part x.line_table lines)

-- how many bytes that is
abbrev pub parts_length : ℕ → Part → Part → Part → ℕ
parts_length body found name table =
    84
    + (text_width found + (label_width (place_of body (text_end found)) name + line_width (place_of body (label_end body found name)) table))

unfoldable pub text_box_length : ℕ → TextBoxPane → List ℕ → List ℕ → List ℕ → ℕ
text_box_length body x units lines label =
    parts_length body (text_part x.text units) (label_part x.label label) (line_part x.line_table lines)

-- the three offsets and the length
abbrev pub parts_layout : ℕ → Part → Part → Part → Layout
parts_layout body found name table = record {
  text = text_offset found;
  label = part_offset (place_of body (text_end found)) (text_end found) name;
  lines = part_offset (place_of body (label_end body found name)) (label_end body found name) table;
  length = parts_length body found name table;
}

unfoldable pub layout_of : ℕ → TextBoxPane → List ℕ → List ℕ → List ℕ → Layout
layout_of body x units lines label = parts_layout body (text_part x.text units) (label_part x.label label) (line_part x.line_table lines)

-- what the bytes ask of the parts: a present one has at most n numbers
abbrev pub Few : ℕ → Part → Type 0
Few n absent = Unit {0}
Few n (present l) = length l ≤ n

pub record Small (x : TextBoxPane) (units lines label : List ℕ) : Type 0 where
  pub text : Few 32767 (text_part x.text units)
  pub name : Few 16777216 (label_part x.label label)
  pub table : Few 510 (line_part x.line_table lines)
