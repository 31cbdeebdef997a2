-- The bytes of a text box depend on its place modulo 4 alone.
use mathlib.Core.Path.{◌≡◌, refl}
use mathlib.Core.List.{List}
use Prim.Native.Nat.{ℕ, ◌+◌, ◌%◌, ◌≤◌}
use native.Mathlib.Omega.{arith}
use Rattle.core_read.specs.declared.cursor.ByteOrder.{ByteOrder}
use Rattle.core_write.proofs.Padding.{padding_shift}
use Rattle.text_box_read.specs.declared.TextBoxPane.{TextBoxPane}
use Rattle.text_box_parts.specs.Parts.{place_of, Part, absent, present, text_part, label_part, line_part}
use Rattle.text_box_write.specs.Written.{part_offset, label_width, line_width, text_end, label_end, encode_label, encode_lines, parts_encoded, parts_length, encode_text_box, text_box_length}

module _ (p : ℕ) (h : p % 4 ≡ 0) where
  shift_label_width : (q : ℕ) (name : Part) → label_width (p + q) name ≡ label_width q name
  shift_label_width q absent = refl
  shift_label_width q (present l) = rw (padding_shift p q h)

  shift_line_width : (q : ℕ) (table : Part) → line_width (p + q) table ≡ line_width q table
  shift_line_width q absent = refl
  shift_line_width q (present l) = rw (padding_shift p q h)

  shift_offset : (q end : ℕ) (name : Part) → part_offset (p + q) end name ≡ part_offset q end name
  shift_offset q end absent = refl
  shift_offset q end (present l) = rw (padding_shift p q h)

  shift_label : (q : ℕ) (name : Part) → encode_label (p + q) name ≡ encode_label q name
  shift_label q absent = refl
  shift_label q (present l) = rw (padding_shift p q h)

  shift_lines : (order : ByteOrder) (q : ℕ) (table : Part) → encode_lines order (p + q) table ≡ encode_lines order q table
  shift_lines order q absent = refl
  shift_lines order q (present l) = rw (padding_shift p q h)

  module _ (body : ℕ) (l : 8 ≤ body) (found name table : Part) where
    shift_place : (o : ℕ) → place_of (p + body) o ≡ p + place_of body o
    shift_place o = omega arith

    shift_end : label_end (p + body) found name ≡ label_end body found name
    shift_end = rw (shift_place (text_end found), shift_label_width (place_of body (text_end found)) name)

    shift_parts_length : parts_length (p + body) found name table ≡ parts_length body found name table
    shift_parts_length =
        rw (
          shift_end,
          shift_place (text_end found),
          shift_place (label_end body found name),
          shift_label_width (place_of body (text_end found)) name,
          shift_line_width (place_of body (label_end body found name)) table,
        )

    shift_parts : (order : ByteOrder) (x : TextBoxPane) → parts_encoded order (p + body) x found name table ≡ parts_encoded order body x found name table
    shift_parts order x =
        rw (
          shift_end,
          shift_place (text_end found),
          shift_place (label_end body found name),
          shift_offset (place_of body (text_end found)) (text_end found) name,
          shift_offset (place_of body (label_end body found name)) (label_end body found name) table,
          shift_label (place_of body (text_end found)) name,
          shift_lines order (place_of body (label_end body found name)) table,
        )

pub text_box_shift : (order : ByteOrder) (p body : ℕ) (x : TextBoxPane) (units lines label : List ℕ) → p % 4 ≡ 0 → 8 ≤ body
    → encode_text_box order (p + body) x units lines label ≡ encode_text_box order body x units lines label
unfolding encode_text_box
text_box_shift order p body x units lines label h l =
    shift_parts p h body l (text_part x.text units) (label_part x.label label) (line_part x.line_table lines) order x

pub length_shift : (p body : ℕ) (x : TextBoxPane) (units lines label : List ℕ) → p % 4 ≡ 0 → 8 ≤ body
    → text_box_length (p + body) x units lines label ≡ text_box_length body x units lines label
unfolding text_box_length
length_shift p body x units lines label h l =
    shift_parts_length p h body l (text_part x.text units) (label_part x.label label) (line_part x.line_table lines)
