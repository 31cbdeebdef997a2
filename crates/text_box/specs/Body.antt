-- The body calls of a text box.
use Rattle.std.specs.Prelude.{ℕ, ◌+◌, ◌≡◌, List, ◌++◌, length, Ok}
use Rattle.core_read.specs.Bytes.{splice}
use Rattle.core_read.specs.Taken.{start, over, Place}
use Rattle.core_checks.specs.Checks.{length_checked, body_checked, body_start, list_checked, end_checked, reach_checked, unless_refused, written_of, Extent, Written}
use Rattle.core_read.specs.declared.cursor.ByteOrder.{ByteOrder}
use Rattle.core_read.specs.Taken.{Taken}
use Rattle.pane_read.specs.Pane.{pane_taken, blank_pane, encode_pane}
use Rattle.pane_checks.specs.Checks.{texts_checked, names_checked, reserve_checked}
use Rattle.pane_read.specs.declared.Pane.{Pane}
use Rattle.text_box_parts.specs.Parts.{label_part}
use Rattle.text_box_read.specs.TextBox.{text_box_units, text_box_lines}
use Rattle.text_box_read.specs.TextBox.{text_box_taken, blank_text_box}
use Rattle.text_box_write.specs.Written.{encode_text_box, text_box_length}
use Rattle.text_box_checks.specs.Checks.{label_checked, label_length_checked, label_name_checked, text_box_checked}
use Rattle.text_box_read.specs.declared.TextBoxPane.{TextBoxPane}
use Rattle.text_box_read.specs.declared.TextBoxFound.{TextBoxFound}
use Rattle.pane_read.specs.declared.parsed.Measured.{Measured}
use Rattle.pane_read.specs.declared.parsed.Parsed.{Parsed}
use Rattle.core_read.specs.declared.error.NumberList.TheVariants.{Units, Lines}

-- ---- read

-- what is measured from a place p of the run, of a body at B: the base, the own fields and parts, then 7 of name, user name and label and, in a section, 19
unfoldable pub text_box_measured : ByteOrder → List ℕ → Place → ℕ → Extent → Taken (Measured TextBoxFound)
text_box_measured order s p body extent =
    let b : Taken Pane = pane_taken order s p in
    let x : Taken TextBoxFound = text_box_taken order s b.then body in
    record {
      value = record { base = b.value; own = x.value };
      then = reach_checked (label_checked (texts_checked x.then b.value body) s x.value.text_box.label) extent;
    }

-- what a read gives of it, blank where the run was refused
unfoldable pub text_box_given : Taken (Measured TextBoxFound) → Parsed TextBoxPane
text_box_given m =
    record {
      answer = m.then;
      base = unless_refused m.then blank_pane m.value.base;
      own = unless_refused m.then blank_text_box m.value.own.text_box;
    }

-- the lent lists after it: the numbers over the front of each, or as it was where the run was refused
unfoldable pub units_filled : ByteOrder → List ℕ → Taken (Measured TextBoxFound) → List ℕ → List ℕ
units_filled order s m old = unless_refused m.then old (over (text_box_units order s m.value.own) old)

unfoldable pub lines_filled : ByteOrder → List ℕ → Taken (Measured TextBoxFound) → List ℕ → List ℕ
lines_filled order s m old = unless_refused m.then old (over (text_box_lines order s m.value.own) old)

unfoldable pub text_box_read : ByteOrder → List ℕ → Place → ℕ → Extent → Parsed TextBoxPane
text_box_read order s p body extent = text_box_given (text_box_measured order s p body extent)

unfoldable pub units_after : ByteOrder → List ℕ → Place → ℕ → Extent → List ℕ → List ℕ
units_after order s p body extent old = units_filled order s (text_box_measured order s p body extent) old

unfoldable pub lines_after : ByteOrder → List ℕ → Place → ℕ → Extent → List ℕ → List ℕ
lines_after order s p body extent old = lines_filled order s (text_box_measured order s p body extent) old

-- the record r that a read gives, and the lists u and l after it, where u₀ and l₀ were lent
abbrev pub Reads : ByteOrder → List ℕ → Place → ℕ → Extent → List ℕ → List ℕ → Parsed TextBoxPane → List ℕ → List ℕ → Type 0
Reads order s p body extent u₀ l₀ r u l =
    (r ≡ text_box_read order s p body extent) × (u ≡ units_after order s p body extent u₀) × (l ≡ lines_after order s p body extent l₀)

-- THE BODY READ at B of s begins with 1, 2, and 3 of lists of so many units and lines, and goes on so in all of the buffer
unfoldable pub text_box_start : ℕ → ℕ → ℕ → ℕ → Place
text_box_start n units lines body = list_checked (list_checked (body_start n body) Units 32767 units) Lines 510 lines

-- ---- write

-- 1, 2, 9, 10, 11, 13, 14, 15 and 16 of a write into n bytes
unfoldable pub text_box_write_checked : Pane → TextBoxPane → List ℕ → List ℕ → List ℕ → ℕ → ℕ → Place
text_box_write_checked b x units lines label n body =
    let p1 : Place = length_checked (Ok (start body)) n in
    let p2 : Place = label_length_checked p1 (label_part x.label label) in
    let p3 : Place = body_checked p2 n body in
    let p4 : Place = names_checked p3 b in
    let p5 : Place = label_name_checked p4 (label_part x.label label) in
    let p6 : Place = reserve_checked p5 b in
    let p7 : Place = text_box_checked p6 x units lines in
    end_checked p7 (body + (76 + text_box_length body x units lines label)) n

-- base, and the own fields and parts
unfoldable pub encode_body : ByteOrder → ℕ → Pane → TextBoxPane → List ℕ → List ℕ → List ℕ → List ℕ
encode_body order body b x units lines label = encode_pane order b ++ encode_text_box order body x units lines label

-- THE BODY WRITE at B of an output o of n bytes: its answer, and the output after it
unfoldable pub text_box_written : Pane → TextBoxPane → List ℕ → List ℕ → List ℕ → ℕ → ℕ → Written
text_box_written b x units lines label n body =
    written_of (text_box_write_checked b x units lines label n body) (body + (76 + text_box_length body x units lines label))

unfoldable pub text_box_output : ByteOrder → Pane → TextBoxPane → List ℕ → List ℕ → List ℕ → List ℕ → ℕ → List ℕ
text_box_output order b x units lines label o body =
    unless_refused (text_box_write_checked b x units lines label (length o) body) o (splice o body (encode_body order body b x units lines label))
