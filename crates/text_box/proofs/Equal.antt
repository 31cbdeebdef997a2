-- THE READ-BACK: a text box that a write lets through is read back, and what is read is equal to what was written.
use mathlib.Core.Path.{◌≡◌, refl, ap, ◌∙◌, subst}
use Prim.Native.Nat.{ℕ, ◌+◌, ◌*◌, ◌/◌, ◌≤◌}
use native.Mathlib.Omega.{arith}
use mathlib.Core.Bool.{Bool, not}
use mathlib.Core.List.{List, [], ◌∷◌, ◌++◌}
use lib.ListN.{length, length-replicate, replicate}
use Rattle.core_read.specs.Bytes.{bytes_of, bytes_of_all, padding, part}
use Rattle.core_read.specs.Taken.{advanced}
use Rattle.core_read.specs.Lists.{numbers_at}
use Rattle.core_read.specs.declared.cursor.ByteOrder.{ByteOrder}
use Rattle.core_read.specs.declared.cursor.Cursor.{Cursor}
use Rattle.core_read.specs.Taken.{Taken}
use Rattle.core_read.proofs.Numbers.{length_bytes}
use Rattle.core_read.proofs.Cursors.{pos_advanced, reach_level}
use Rattle.core_read.proofs.Runs.{passed}
use Rattle.core_read.proofs.Back.{Holds, split, holds_left, holds_fits, holds_part, length_all}
use Rattle.utf8.specs.Utf8.{well_formed}
use Rattle.text_box_parts.specs.declared.Text.{Text}
use Rattle.text_box_parts.specs.declared.Text.TheVariants as text
use Rattle.text_box_read.specs.declared.TextBoxPane.{TextBoxPane}
use Rattle.text_box_read.specs.declared.TextBoxFound.{TextBoxFound}
use Rattle.text_box_parts.specs.Parts.{place_of, Part, absent, present, text_part, label_part, line_part, column, units_of, lines_of, LineTable}
use Rattle.text_box_read.specs.TextBox.{text_box_units, text_box_lines}
use Rattle.text_box_read.specs.TextBox.{text_box_taken}
use Rattle.text_box_write.specs.Written.{text_end, label_end, encode_text, encode_label, encode_lines, encode_text_box, text_box_length}
use Rattle.text_box_caption.specs.Caption.{label_of}
use Rattle.text_box_checks.specs.Checks.{label_checked}
use Rattle.text_box.specs.Same.{SameTextBox}
use Rattle.text_box_read.specs.Typed.{TypedTextBox}
use Rattle.text_box_caption.proofs.Captions.{inside}
use Rattle.text_box_write.proofs.Columns.{length_column, lines_back}
use Rattle.text_box.proofs.Cleared.{GoodText, GoodLabel, GoodLines, GoodBit, GoodTextBox}
use Rattle.text_box.proofs.Back.{Below, Bounded, Set, fits, fits_column, numbers_stand, read_text, text_place, read_label, read_table, table_place}
use Rattle.text_box.proofs.Whole.{parts_taken, after_parts, pos_parts, reach_parts, parts_read, the_text, the_label, the_lines}
use Rattle.std.specs.Prelude.{None, Ok, Some}

-- ---- each part as it stands in the bytes

module _ (s : List ℕ) (order : ByteOrder) where
  text_same : (body long : ℕ) (found : Part) → GoodText long found → Bounded 2 found → Holds s (place_of body 168) (encode_text order found)
      → text_part (read_text found) (units_of (read_text found) (numbers_at order 2 (long / 2) s (text_place body found))) ≡ found
  text_same body long absent g b h = refl
  text_same body long (present u) g b h = rw (← g.0, numbers_stand s order 2 (place_of body 168) u (fits 2 u b) h)

  column_stands : (at : ℕ) (l : List ℕ) (k n : ℕ) → Below 4 l → Holds s at (bytes_of_all order 4 (column l k n)) → numbers_at order 4 n s at ≡ column l k n
  column_stands at l k n b h =
      subst (λ (m : ℕ). numbers_at order 4 m s at ≡ column l k n) (length_column l k n) (numbers_stand s order 4 at (column l k n) (fits_column 4 l k n b) h)

  table_same : (at : ℕ) (table : Part) → GoodLines table → Bounded 4 table → Holds s at (encode_lines order at table)
      → line_part (read_table table) (lines_of order s (read_table table) (table_place at table)) ≡ table
  table_same at absent g b h = refl
  table_same at (present l) g b h =
      let n : ℕ = length l / 2 in
      let o : List ℕ = bytes_of_all order 4 (column l 0 n) in
      let v : List ℕ = bytes_of_all order 4 (column l 1 n) in
      let k = (split (replicate (padding at) 0) (bytes_of order 1 n ++ (o ++ v)) (padding at) (length-replicate (padding at) 0) h).1 in
      let j = (split (bytes_of order 1 n) (o ++ v) 1 (length_bytes order 1 n) k).1 in
      let i = split o v (4 * n) (length_all order 4 (column l 0 n) ∙ ap (λ (z : ℕ). 4 * z) (length_column l 0 n)) j in
      rw (column_stands (at + padding at + 1) l 0 n b i.0, column_stands (at + padding at + 1 + 4 * n) l 1 n b i.1, lines_back l g.0)

  label_same : (at : ℕ) (name : Part) → Holds s at (encode_label at name) → label_part (read_label at name) (label_of s (read_label at name)) ≡ name
  unfolding part
  label_same at absent h = refl
  label_same at (present b) h =
      let k = (split (replicate (padding at) 0) (b ++ (0 ∷ [])) (padding at) (length-replicate (padding at) 0) h).1 in
      let j = holds_left b (0 ∷ []) k in
      let f = holds_fits b j in
      rw (inside s (at + padding at) (length b) (omega (arith, f)) (omega (arith, f)), holds_part b (length b) refl j)

-- ---- THE WHOLE

set_bit : (table : LineTable) (l : List ℕ) (line : Bool) → GoodBit table line → Set (line_part table l) line
set_bit None l line g = tt
set_bit (Some count) l line g = g

bounded_text : (t : Text) (units : List ℕ) → Below 2 units → Bounded 2 (text_part t units)
bounded_text text.Absent units b = tt
bounded_text text.Present units b = b

bounded_lines : (t : LineTable) (l : List ℕ) → Below 4 l → Bounded 4 (line_part t l)
bounded_lines None l b = tt
bounded_lines (Some count) l b = b

-- what reading a text box that was written at B gives
unfoldable pub read_back : ℕ → Cursor → TextBoxPane → List ℕ → List ℕ → List ℕ → Taken TextBoxFound
read_back body c x units lines label = parts_taken body c x (text_part x.text units) (label_part x.label label) (line_part x.line_table lines)

-- where the run stands then: at the end of the fixed bytes, and it has looked at all that was written
unfoldable pub after_box : ℕ → Cursor → TextBoxPane → List ℕ → List ℕ → List ℕ → Cursor
after_box body c x units lines label = after_parts body (advanced c 84) (text_part x.text units) (label_part x.label label) (line_part x.line_table lines)

module _ (body : ℕ) (c : Cursor) (x : TextBoxPane) (units lines label : List ℕ) where
  pub then_back : (read_back body c x units lines label).then ≡ Ok (after_box body c x units lines label)
  unfolding read_back after_box
  then_back = refl

  pub pos_box : c.pos ≡ body + 76 → (after_box body c x units lines label).pos ≡ body + 160
  unfolding after_box
  pos_box here =
      pos_parts body (advanced c 84) (pos_advanced c 84 ∙ omega (arith, here)) (text_part x.text units) (label_part x.label label) (line_part x.line_table lines)

  pub reach_box : 8 ≤ body → c.pos ≡ body + 76 → c.reach ≡ c.pos → (after_box body c x units lines label).reach ≡ body + 76 + text_box_length body x units lines label
  unfolding after_box text_box_length
  reach_box low here level =
      reach_parts body (advanced c 84) low (reach_level c level 84 ∙ omega (arith, here)) (text_part x.text units) (label_part x.label label) (line_part x.line_table lines)

module _ (s : List ℕ) (c : Cursor) (order : ByteOrder) (body : ℕ) (here : c.pos ≡ body + 76) (low : 8 ≤ body) (x : TextBoxPane) (units lines label : List ℕ)
    (t : TypedTextBox x) (g : GoodTextBox x units lines label) (bu : Below 2 units) (bl : Below 4 lines)
    (a : Holds s c.pos (encode_text_box order body x units lines label)) where
  pub text_box_back : text_box_taken order s (Ok c) body ≡ read_back body c x units lines label
  unfolding encode_text_box read_back
  text_box_back =
      parts_read s c order body here low x t (text_part x.text units) (label_part x.label label) (line_part x.line_table lines)
      g.text g.short g.name g.table (set_bit x.line_table lines _ g.bit) (bounded_text x.text units bu) (bounded_lines x.line_table lines bl) a

  -- with the numbers that the read gives, and the label as it stands in s
  pub read_same : SameTextBox
      (record {
        box = (read_back body c x units lines label).value.text_box;
        units = text_box_units order s (read_back body c x units lines label).value;
        lines = text_box_lines order s (read_back body c x units lines label).value;
        label = label_of s (read_back body c x units lines label).value.text_box.label;
      })
      (record { box = x; units = units; lines = lines; label = label })
  unfolding encode_text_box read_back
  read_same =
      let found : Part = text_part x.text units in
      let name : Part = label_part x.label label in
      let table : Part = line_part x.line_table lines in
      let b₁ = set_bit x.line_table lines x.text_flags.is_line_transform g.bit in
      let b₂ = bounded_text x.text units bu in
      let b₃ = bounded_lines x.line_table lines bl in
      record {
        buffer = refl;
        long = refl;
        material = refl;
        font = refl;
        origin = refl;
        alignment = refl;
        flags = refl;
        tilt = refl;
        top = refl;
        bottom = refl;
        measure = refl;
        character = refl;
        line = refl;
        shadow_translation = refl;
        shadow_size = refl;
        shadow_top = refl;
        shadow_bottom = refl;
        shadow_tilt = refl;
        text = text_same s order body x.text_length found g.text b₂
            (the_text s c order body here low x t found name table g.text g.short g.name g.table b₁ b₂ b₃ a);
        name = label_same s order (place_of body (text_end found)) name
            (the_label s c order body here low x t found name table g.text g.short g.name g.table b₁ b₂ b₃ a);
        table = table_same s order (place_of body (label_end body found name)) table g.table b₃
            (the_lines s c order body here low x t found name table g.text g.short g.name g.table b₁ b₂ b₃ a);
      }

-- 7 lets the label through that was read
label_formed : (s : List ℕ) (d : Cursor) (at : ℕ) (name : Part) → GoodLabel name → label_part (read_label at name) (label_of s (read_label at name)) ≡ name
    → label_checked (Ok d) s (read_label at name) ≡ Ok d
unfolding label_checked
label_formed s d at absent g e = refl
label_formed s d at (present b) g e =
    let f : label_of s (Some (record { place = at + padding at; length = length b })) ≡ b = cc in
    passed d _ _ (ap (λ (l : List ℕ). not (well_formed l)) f ∙ ap not g.1)

pub label_passes : (s : List ℕ) (c d : Cursor) (order : ByteOrder) (body : ℕ) → c.pos ≡ body + 76 → 8 ≤ body → (x : TextBoxPane) (units lines label : List ℕ)
    → TypedTextBox x → GoodTextBox x units lines label → Below 2 units → Below 4 lines → Holds s c.pos (encode_text_box order body x units lines label)
    → label_checked (Ok d) s (read_back body c x units lines label).value.text_box.label ≡ Ok d
unfolding read_back
label_passes s c d order body here low x units lines label t g bu bl a =
    label_formed s d (place_of body (text_end (text_part x.text units))) (label_part x.label label) g.name
    (read_same s c order body here low x units lines label t g bu bl a).name
