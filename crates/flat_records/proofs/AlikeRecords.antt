-- Words that are alike where a write reads are the same record, but for counts, label place and label length.
use mathlib.Core.Path.{◌≡◌, refl, ap, ◌∙◌}
use Prim.Native.Nat.{ℕ, zero, suc, ◌+◌, ◌≤◌}
use native.Mathlib.Omega.{arith}
use mathlib.Core.Bool.{Bool, true, false, cond, ◌&&◌}
use mathlib.Core.List.{List}
use lib.ListN.{get_or}
use lib.Dec.{leb, ltb}
use borrow.Author.Tests.{leb-true, ltb-true}
use Rattle.picture_fields.specs.declared.PicturePane.{PicturePane}
use Rattle.text_box_read.specs.declared.TextBoxPane.{TextBoxPane}
use Rattle.window_read.specs.declared.WindowPane.{WindowPane}
use Rattle.strip_records.specs.declared.kind.Kind.{Kind}
use Rattle.strip_records.specs.declared.kind.Kind.TheVariants.{Pan1, Pic1, Txt1, Wnd1, Ali1}
use Rattle.strip_records.specs.declared.record.Record.{Record}
use Rattle.flat.specs.Words.{byte_at, flag_at, quadruple_at, colors_at, bytes_at}
use Rattle.flat.specs.Base.{pane_flags_at, position_at, flag_ex_at, name_at, user_at, base_at}
use Rattle.flat_kinds.specs.Own.{picture_at, window_at, alignment_at}
use Rattle.flat_text_box.specs.TextBox.{text_flags_at, label_at, lines_at, text_box_at}
use Rattle.flat_records.specs.Records.{kind_of, record_by, record_of}
use Rattle.flat_records.specs.Unread.{Range, range, ranges_read, Agree, AgreeAll, SameRead}
use Rattle.flat_records.proofs.Alike.{both_true, kinds_same}
use Rattle.text_box_parts.specs.Parts.{Label, LineTable}
use Rattle.std.specs.Prelude.{None, Some}

-- ---- a record with its counts, its label's place and its label's length set to 0

abbrev pub plain_picture : PicturePane → PicturePane
plain_picture x = record {
  vertex_colors = x.vertex_colors;
  material_index = x.material_index;
  shape_info_array_index = x.shape_info_array_index;
  quad_count = 0;
}

abbrev pub plain_label : Label → Label
plain_label None = None
plain_label (Some span) = Some (record { place = 0; length = 0 })

abbrev pub plain_lines : LineTable → LineTable
plain_lines None = None
plain_lines (Some count) = Some 0

abbrev pub plain_text_box : TextBoxPane → TextBoxPane
plain_text_box x = record {
  text_buffer_size = x.text_buffer_size;
  text_length = x.text_length;
  material_index = x.material_index;
  font_index = x.font_index;
  text_origin = x.text_origin;
  text_alignment = x.text_alignment;
  text_flags = x.text_flags;
  italic_tilt = x.italic_tilt;
  font_top_color = x.font_top_color;
  font_bottom_color = x.font_bottom_color;
  font_measure = x.font_measure;
  character_space = x.character_space;
  line_space = x.line_space;
  shadow_translation = x.shadow_translation;
  shadow_size = x.shadow_size;
  shadow_top_color = x.shadow_top_color;
  shadow_bottom_color = x.shadow_bottom_color;
  shadow_italic_tilt = x.shadow_italic_tilt;
  text = x.text;
  label = plain_label x.label;
  line_table = plain_lines x.line_table;
}

abbrev pub plain_window : WindowPane → WindowPane
plain_window x = record {
  inflation_left = x.inflation_left;
  inflation_right = x.inflation_right;
  inflation_top = x.inflation_top;
  inflation_bottom = x.inflation_bottom;
  frame_size_left = x.frame_size_left;
  frame_size_right = x.frame_size_right;
  frame_size_top = x.frame_size_top;
  frame_size_bottom = x.frame_size_bottom;
  flag = x.flag;
  frame_count = 0;
  content = record { vertex_colors = x.content.vertex_colors; material_index = x.content.material_index; quad_count = 0 };
}

abbrev pub plain : Record → Record
plain r = record {
  kind = r.kind;
  base = r.base;
  picture = plain_picture r.picture;
  text_box = plain_text_box r.text_box;
  window = plain_window r.window;
  alignment = r.alignment;
}

-- where the flags are alike, place, length and count are not looked at
label_plain : (t : Bool) (a b c d : ℕ) → plain_label (cond t (Some (record { place = a; length = b })) None) ≡ plain_label (cond t (Some (record { place = c; length = d })) None)
label_plain true a b c d = refl
label_plain false a b c d = refl

lines_plain : (t : Bool) (a b : ℕ) → plain_lines (cond t (Some a) None) ≡ plain_lines (cond t (Some b) None)
lines_plain true a b = refl
lines_plain false a b = refl

-- ---- words in a range

module _ {w v : List ℕ} where
  narrowed : {r : Range} → Agree w v r → (a b : ℕ) → r.from ≤ a → b ≤ r.to → Agree w v (range a b)
  narrowed g a b h k = record { same = λ j x y. g.same j (omega arith) (omega arith) }

  seen : {r : Range} → Agree w v r → (j : ℕ) → leb r.from j && ltb j r.to ≡ true → get_or w j 0 ≡ get_or v j 0
  seen {r} g j e =
      let (x, y) = both_true (leb r.from j) (ltb j r.to) e in
      g.same j (leb-true r.from j x) (ltb-true j r.to y)

  bytes_alike : {r : Range} → Agree w v r → (p n : ℕ) → r.from ≤ p → p + n ≤ r.to → bytes_at w p n ≡ bytes_at v p n
  unfolding bytes_at
  bytes_alike g p zero h k = refl
  bytes_alike g p (suc n) h k = rw (g.same p h (omega arith), bytes_alike g (p + 1) n (omega arith) (omega arith))

  color_alike : {r : Range} → Agree w v r → (p : ℕ) → r.from ≤ p → p + 4 ≤ r.to → quadruple_at w p ≡ quadruple_at v p
  color_alike g p h k = rw (g.same p h (omega arith), g.same (p + 1) (omega arith) (omega arith), g.same (p + 2) (omega arith) (omega arith), g.same (p + 3) (omega arith) (omega arith))

  colors_alike : {r : Range} → Agree w v r → (p : ℕ) → r.from ≤ p → p + 16 ≤ r.to → colors_at w p ≡ colors_at v p
  colors_alike g p h k =
      rw (color_alike g p h (omega arith), color_alike g (p + 4) (omega arith) (omega arith), color_alike g (p + 8) (omega arith) (omega arith), color_alike g (p + 12) (omega arith) (omega arith))

  -- ---- the base

  flags_alike : Agree w v (range 0 62) → pane_flags_at w ≡ pane_flags_at v
  flags_alike g = let s = seen g in rw (s 1 refl, s 2 refl, s 3 refl, s 4 refl, s 5 refl, s 6 refl, s 7 refl, s 8 refl)

  position_alike : Agree w v (range 0 62) → position_at w ≡ position_at v
  position_alike g = let s = seen g in rw (s 9 refl, s 10 refl, s 11 refl, s 12 refl)

  flag_ex_alike : Agree w v (range 0 62) → flag_ex_at w ≡ flag_ex_at v
  flag_ex_alike g = let s = seen g in rw (s 14 refl, s 15 refl, s 16 refl, s 17 refl)

  name_alike : Agree w v (range 0 62) → name_at w ≡ name_at v
  name_alike g = rw (seen g 18 refl, bytes_alike g 19 24 (omega arith) (omega arith))

  user_alike : Agree w v (range 0 62) → user_at w ≡ user_at v
  user_alike g = rw (seen g 43 refl, bytes_alike g 44 8 (omega arith) (omega arith))

  base_alike : Agree w v (range 0 62) → base_at w ≡ base_at v
  unfolding base_at
  base_alike g =
      let s = seen g in
      rw (flags_alike g, position_alike g, s 13 refl, flag_ex_alike g, name_alike g, user_alike g)
      (rw (s 52 refl, s 53 refl, s 54 refl, s 55 refl, s 56 refl, s 57 refl, s 58 refl, s 59 refl, s 60 refl, s 61 refl))

  -- ---- each kind

  picture_alike : Agree w v (range 0 79) → Agree w v (range 80 82) → plain_picture (picture_at w) ≡ plain_picture (picture_at v)
  unfolding picture_at
  picture_alike g h = rw (colors_alike g 62 (omega arith) (omega arith), seen g 78 refl, seen h 80 refl, seen h 81 refl)

  text_flags_alike : Agree w v (range 0 112) → text_flags_at w ≡ text_flags_at v
  text_flags_alike g = let s = seen g in rw (s 69 refl, s 70 refl, s 71 refl, s 72 refl, s 73 refl, s 74 refl, s 75 refl) (rw (s 76 refl, s 77 refl, s 78 refl, s 79 refl, s 80 refl, s 81 refl, s 82 refl))

  label_alike : Agree w v (range 0 112) → plain_label (label_at w) ≡ plain_label (label_at v)
  label_alike g = rw (seen g 111 refl) (label_plain (flag_at v 111) (get_or w 112 0) (get_or w 113 0) (get_or v 112 0) (get_or v 113 0))

  lines_alike : Agree w v (range 114 115) → plain_lines (lines_at w) ≡ plain_lines (lines_at v)
  lines_alike g = rw (seen g 114 refl) (lines_plain (flag_at v 114) (byte_at w 115) (byte_at v 115))

  text_box_alike : Agree w v (range 0 112) → Agree w v (range 114 115) → plain_text_box (text_box_at w) ≡ plain_text_box (text_box_at v)
  unfolding text_box_at
  text_box_alike g h =
      let s = seen g in
      rw (text_flags_alike g, label_alike g, lines_alike h, s 62 refl, s 63 refl, s 64 refl, s 65 refl, s 66 refl, s 67 refl, s 68 refl)
      (rw (
        color_alike g 87 (omega arith) (omega arith),
        color_alike g 91 (omega arith) (omega arith),
        color_alike g 101 (omega arith) (omega arith),
        color_alike g 105 (omega arith) (omega arith),
        s 83 refl,
        s 84 refl,
        s 85 refl,
        s 86 refl,
      )
      (rw (s 95 refl, s 96 refl, s 97 refl, s 98 refl, s 99 refl, s 100 refl, s 109 refl, s 110 refl)))

  window_alike : Agree w v (range 0 74) → Agree w v (range 75 92) → plain_window (window_at w) ≡ plain_window (window_at v)
  unfolding window_at
  window_alike g h =
      let s = seen g in
      rw (s 62 refl, s 63 refl, s 64 refl, s 65 refl, s 66 refl, s 67 refl, s 68 refl, s 69 refl) (rw (s 70 refl, s 71 refl, s 72 refl, s 73 refl, colors_alike h 75 (omega arith) (omega arith), seen h 91 refl))

  alignment_alike : Agree w v (range 0 66) → alignment_at w ≡ alignment_at v
  alignment_alike g = let s = seen g in rw (s 62 refl, s 63 refl, s 64 refl, s 65 refl)

module _ (w v : List ℕ) where
  record_alike : (k : Kind) → AgreeAll (ranges_read k) w v → plain (record_by k w) ≡ plain (record_by k v)
  unfolding record_by
  record_alike Pan1 (g, z) = rw (base_alike g)
  record_alike Pic1 (g, (h, z)) = rw (base_alike (narrowed g 0 62 (omega arith) (omega arith)), picture_alike g h)
  record_alike Txt1 (g, (h, z)) = rw (base_alike (narrowed g 0 62 (omega arith) (omega arith)), text_box_alike g h)
  record_alike Wnd1 (g, (h, z)) = rw (base_alike (narrowed g 0 62 (omega arith) (omega arith)), window_alike g h)
  record_alike Ali1 (g, z) = rw (base_alike (narrowed g 0 62 (omega arith) (omega arith)), alignment_alike g)

  -- THE LAW
  pub plain_alike : SameRead w v → plain (record_of w) ≡ plain (record_of v)
  plain_alike g = record_alike (kind_of (get_or w 0 0)) g.words ∙ ap (λ (k : Kind). plain (record_by k v)) (kinds_same w v g)
