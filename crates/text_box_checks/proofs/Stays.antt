-- A run that was refused stays refused, whatever the parts of a text box.
use mathlib.Core.Path.{◌≡◌, refl}
use mathlib.Core.List.{List}
use Prim.Native.Nat.{ℕ}
use Rattle.core_read.specs.Taken.{stop_if}
use Rattle.core_read.specs.declared.error.Refusal.{Refusal}
use Rattle.core_checks.specs.Checks.{length_checked, count_checked}
use Rattle.utf16.specs.Utf16.{utf16_of}
use Rattle.text_box_parts.specs.Parts.{Part, absent, present, text_part, line_part}
use Rattle.text_box_read.specs.declared.TextBoxPane.{TextBoxPane}
use Rattle.text_box_checks.specs.Checks.{label_length_checked, lines_checked, fault_checked, utf16_checked, text_box_checked}
use Rattle.std.specs.Prelude.{Err, None, Some, Option}

pub label_length_stays : (why : Refusal) (name : Part) → label_length_checked (Err why) name ≡ Err why
unfolding label_length_checked length_checked stop_if
label_length_stays why absent = refl
label_length_stays why (present bytes) = refl

lines_stay : (why : Refusal) (table : Part) → lines_checked (Err why) table ≡ Err why
unfolding lines_checked count_checked stop_if
lines_stay why absent = refl
lines_stay why (present l) = refl

fault_stays : (why : Refusal) (found : Option ℕ) → fault_checked (Err why) found ≡ Err why
unfolding fault_checked stop_if
fault_stays why None = refl
fault_stays why (Some before) = refl

pub utf16_stays : (why : Refusal) (found : Part) → utf16_checked (Err why) found ≡ Err why
unfolding utf16_checked
utf16_stays why absent = refl
utf16_stays why (present units) = fault_stays why (utf16_of units)

pub text_box_stays : (why : Refusal) (x : TextBoxPane) (units lines : List ℕ) → text_box_checked (Err why) x units lines ≡ Err why
unfolding text_box_checked stop_if
text_box_stays why x units lines = rw (lines_stay why (line_part x.line_table lines), utf16_stays why (text_part x.text units))
