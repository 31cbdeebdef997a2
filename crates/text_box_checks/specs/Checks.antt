-- The checks of a text box.
use Rattle.std.specs.Prelude.{ℕ, ◌/◌, Bool, true, false, not, ◌||◌, Option, Some, None, List, length, eqb}
use Rattle.core_read.specs.Taken.{stop_if, has_zero, Place}
use Rattle.core_checks.specs.Checks.{length_checked, count_checked}
use Rattle.core_read.specs.declared.error.Refusal.TheVariants.{IllFormedUtf8, BadName, TextLength, IllFormedUtf16, NoLineBit}
use Rattle.utf8.specs.Utf8.{well_formed}
use Rattle.utf16.specs.Utf16.{utf16_of}
use Rattle.text_box_read.specs.declared.TextBoxPane.{TextBoxPane}
use Rattle.text_box_parts.specs.Parts.{Part, absent, present, text_part, line_part, Label, LineTable}
use Rattle.text_box_caption.specs.Caption.{label_of}
use Rattle.core_read.specs.declared.error.NumberList.TheVariants.{Lines}
use Rattle.core_read.specs.declared.error.CheckedText.TheVariants as checked

-- 7: the label that was read is ill-formed UTF-8
unfoldable pub label_checked : Place → List ℕ → Label → Place
label_checked p s None = p
label_checked p s (Some span) = stop_if p (not (well_formed (label_of s (Some span)))) (IllFormedUtf8 span.place checked.Label)

-- 1: a label to write, longer than 16,777,216
unfoldable pub label_length_checked : Place → Part → Place
label_length_checked p absent = p
label_length_checked p (present bytes) = length_checked p (length bytes)

-- with a NUL or ill-formed
unfoldable pub label_bad : Part → Bool
label_bad absent = false
label_bad (present bytes) = has_zero bytes || not (well_formed bytes)

-- 9: the label
unfoldable pub label_name_checked : Place → Part → Place
label_name_checked p name = stop_if p (label_bad name) (BadName checked.Label)

-- 11: lines not 2n numbers, n at most 255: list 3
unfoldable pub lines_checked : Place → Part → Place
lines_checked p absent = p
lines_checked p (present l) = count_checked p Lines 2 (length l)

-- text present, units not text_length / 2 rounded down
unfoldable pub units_bad : Part → ℕ → Bool
units_bad absent long = false
units_bad (present units) long = not (eqb (length units) (long / 2))

-- line table present, flag bit 6 clear
unfoldable pub bit_bad : LineTable → Bool → Bool
bit_bad None line = false
bit_bad (Some count) line = not line

-- 14: text ill-formed UTF-16, with the units before the fault
unfoldable pub fault_checked : Place → Option ℕ → Place
fault_checked p None = p
fault_checked p (Some before) = stop_if p true (IllFormedUtf16 before)

unfoldable pub utf16_checked : Place → Part → Place
utf16_checked p absent = p
utf16_checked p (present units) = fault_checked p (utf16_of units)

-- 11, 13, 14 and 15
unfoldable pub text_box_checked : Place → TextBoxPane → List ℕ → List ℕ → Place
text_box_checked p x units l =
    let p1 : Place = lines_checked p (line_part x.line_table l) in
    let p2 : Place = stop_if p1 (units_bad (text_part x.text units) x.text_length) (TextLength (length units) x.text_length) in
    let p3 : Place = utf16_checked p2 (text_part x.text units) in
    stop_if p3 (bit_bad x.line_table x.text_flags.is_line_transform) NoLineBit
