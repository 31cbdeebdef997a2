-- What the checks of a write that were passed tell of a text box.
use mathlib.Core.Path.{◌≡◌, refl, sym}
use mathlib.Core.List.{List}
use mathlib.Core.Bool.{Bool, true, false, not}
use Prim.Native.Nat.{ℕ, ◌/◌, ◌%◌, ◌^◌, ◌≤◌, ◌<◌}
use native.Mathlib.Omega.{arith}
use lib.ListN.{length}
use borrow.Author.Tests.{not-false, eqb-true}
use Rattle.core_read.specs.Taken.{has_zero, Place}
use Rattle.core_read.specs.declared.cursor.Cursor.{Cursor}
use Rattle.core_read.proofs.Runs.{cleared}
use Rattle.core_checks.proofs.Checked.{or_false, length_cleared, count_cleared}
use Rattle.utf8.specs.Utf8.{well_formed}
use Rattle.utf16.specs.Utf16.{utf16_of, is_well_formed, well_formed16}
use Rattle.text_box_read.specs.declared.TextBoxPane.{TextBoxPane}
use Rattle.text_box_parts.specs.Parts.{Part, absent, present, text_part, label_part, line_part, LineTable}
use Rattle.text_box_write.specs.Written.{Few, Small}
use Rattle.text_box_checks.specs.Checks.{label_length_checked, label_bad, label_name_checked, lines_checked, units_bad, bit_bad, fault_checked, utf16_checked, text_box_checked}
use Rattle.std.specs.Prelude.{None, Ok, Some, Option}
use Rattle.core_read.specs.declared.error.NumberList.TheVariants.{Lines}

-- ---- what the checks leave of each part

abbrev pub GoodText : ℕ → Part → Type 0
GoodText long absent = Unit {0}
GoodText long (present units) = (length units ≡ long / 2) × (well_formed16 units ≡ true)

abbrev pub GoodLabel : Part → Type 0
GoodLabel absent = Unit {0}
GoodLabel (present bytes) = (has_zero bytes ≡ false) × (well_formed bytes ≡ true)

abbrev pub GoodLines : Part → Type 0
GoodLines absent = Unit {0}
GoodLines (present l) = (length l % 2 ≡ 0) × (length l ≤ 510)

abbrev pub GoodBit : LineTable → Bool → Type 0
GoodBit None line = Unit {0}
GoodBit (Some count) line = line ≡ true

pub record GoodTextBox (x : TextBoxPane) (units lines label : List ℕ) : Type 0 where
  pub text : GoodText x.text_length (text_part x.text units)
  pub short : Few 16777216 (label_part x.label label)
  pub name : GoodLabel (label_part x.label label)
  pub table : GoodLines (line_part x.line_table lines)
  pub bit : GoodBit x.line_table x.text_flags.is_line_transform

-- ---- 1 and 9 of the label

pub label_length_cleared : (p : Place) (name : Part) (c : Cursor) → label_length_checked p name ≡ Ok c → (p ≡ Ok c) × Few 16777216 name
unfolding label_length_checked
label_length_cleared p absent c e = (e, tt)
label_length_cleared p (present bytes) c e = length_cleared p (length bytes) c e

good_label : (name : Part) → label_bad name ≡ false → GoodLabel name
unfolding label_bad
good_label absent e = tt
good_label (present bytes) e = let h = or_false (has_zero bytes) (not (well_formed bytes)) e in (h.0, not-false _ h.1)

pub label_name_cleared : (p : Place) (name : Part) (c : Cursor) → label_name_checked p name ≡ Ok c → (p ≡ Ok c) × GoodLabel name
unfolding label_name_checked
label_name_cleared p name c e = let h = cleared p _ _ c e in (h.0, good_label name h.1)

-- ---- 11, 13, 14 and 15

lines_cleared : (p : Place) (table : Part) (c : Cursor) → lines_checked p table ≡ Ok c → (p ≡ Ok c) × GoodLines table
unfolding lines_checked
lines_cleared p absent c e = (e, tt)
lines_cleared p (present l) c e = let (h, w, f) = count_cleared p Lines 2 (length l) c e in (h, (w, f))

fault_cleared : (p : Place) (u : Option ℕ) (c : Cursor) → fault_checked p u ≡ Ok c → (p ≡ Ok c) × (is_well_formed u ≡ true)
unfolding fault_checked
fault_cleared p None c e = (e, refl)
fault_cleared p (Some before) c e = let h = cleared p true _ c e in (h.0, sym h.1)

text_cleared : (q : Place) (long : ℕ) (found : Part) (c : Cursor) → utf16_checked q found ≡ Ok c
    → (q ≡ Ok c) × (units_bad found long ≡ false → GoodText long found)
unfolding utf16_checked units_bad
text_cleared q long absent c e = (e, λ f. tt)
text_cleared q long (present units) c e = let h = fault_cleared q (utf16_of units) c e in (h.0, λ f. (eqb-true _ _ (not-false _ f), h.1))

good_bit : (table : LineTable) (line : Bool) → bit_bad table line ≡ false → GoodBit table line
unfolding bit_bad
good_bit None line e = tt
good_bit (Some count) line e = not-false line e

pub text_box_early : (p : Place) (x : TextBoxPane) (units lines : List ℕ) (c : Cursor) → text_box_checked p x units lines ≡ Ok c → p ≡ Ok c
unfolding text_box_checked
text_box_early p x units lines c e =
    let t = text_cleared _ x.text_length (text_part x.text units) c (cleared _ _ _ c e).0 in
    (lines_cleared p (line_part x.line_table lines) c (cleared _ _ _ c t.0).0).0

pub text_box_cleared : (p : Place) (x : TextBoxPane) (units lines label : List ℕ) (c : Cursor) → text_box_checked p x units lines ≡ Ok c
    → Few 16777216 (label_part x.label label) → GoodLabel (label_part x.label label) → (p ≡ Ok c) × GoodTextBox x units lines label
unfolding text_box_checked
text_box_cleared p x units lines label c e s n =
    let b = cleared _ _ _ c e in
    let t = text_cleared _ x.text_length (text_part x.text units) c b.0 in
    let u = cleared _ _ _ c t.0 in
    let l = lines_cleared p (line_part x.line_table lines) c u.0 in (
      l.0,
      record {
        text = t.1 u.1;
        short = s;
        name = n;
        table = l.1;
        bit = good_bit x.line_table x.text_flags.is_line_transform b.1;
      },
    )

-- what the bytes ask
few_units : (long : ℕ) (found : Part) → long < 256 ^ 2 → GoodText long found → Few 32767 found
few_units long absent h g = tt
few_units long (present units) h g = omega (arith, g.0)

few_lines : (table : Part) → GoodLines table → Few 510 table
few_lines absent g = tt
few_lines (present l) g = g.1

pub small : (x : TextBoxPane) (units lines label : List ℕ) → x.text_length < 256 ^ 2 → GoodTextBox x units lines label → Small x units lines label
small x units lines label h g = record {
  text = few_units x.text_length (text_part x.text units) h g.text;
  name = g.short;
  table = few_lines (line_part x.line_table lines) g.table;
}
