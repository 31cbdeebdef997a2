-- The parts of a text box that offsets point to: text, label and line table.
use Rattle.std.specs.Prelude.{ℕ, zero, suc, ◌+◌, ◌-◌, ◌*◌, ◌/◌, Bool, not, cond, ◌&&◌, List, [], ◌∷◌, get_or, eqb, None, Some, Option}
use Rattle.core_read.specs.Taken.{stop_if, sought, u8_taken, as_count, Place}
use Rattle.core_read.specs.Taken.{Taken}
use Rattle.core_read.specs.Taken as core
use Rattle.core_read.specs.Lists.{numbers_taken, numbers_at}
use Rattle.core_checks.specs.Checks.{unless_refused}
use Rattle.core_read.specs.declared.cursor.ByteOrder.{ByteOrder}
use Rattle.core_read.specs.declared.error.Refusal.TheVariants.{PerCharacter}
use Rattle.utf16.specs.Utf16.{well_formed16}
use Rattle.text_box_parts.specs.declared.Span.{Span}
use Rattle.text_box_parts.specs.declared.Text.{Text}
use Rattle.text_box_parts.specs.declared.Text.TheVariants as text
use Rattle.text_box_parts.specs.declared.parts.TextFound.{TextFound}
use Rattle.text_box_parts.specs.declared.parts.LinesFound.{LinesFound}

-- where a label that was read stands in the strip, if there is one; on a write its bytes are lent
abbrev pub Label : Type 0
Label = Option Span

-- how many lines a line table has, if there is one
abbrev pub LineTable : Type 0
LineTable = Option ℕ

-- offsets count from B − 8
abbrev pub place_of : ℕ → ℕ → ℕ
place_of body offset = body - 8 + offset

-- ---- a part by presence and content

-- absent, or present with its numbers, which may be none
pub data Part : Type 0 where
  absent : Part
  present : List ℕ → Part

abbrev pub text_part : Text → List ℕ → Part
text_part text.Absent units = absent
text_part text.Present units = present units

abbrev pub label_part : Label → List ℕ → Part
label_part None bytes = absent
label_part (Some span) bytes = present bytes

abbrev pub line_part : LineTable → List ℕ → Part
line_part None l = absent
line_part (Some count) l = present l

-- ---- the text: text_length / 2 rounded down, u16; ill-formed text reads as absent

abbrev pub text_of : List ℕ → Text
text_of units = cond (well_formed16 units) text.Present text.Absent

-- n units at a place, and back to the end of the fixed bytes
unfoldable pub text_at : ByteOrder → List ℕ → Place → ℕ → ℕ → ℕ → Taken TextFound
text_at order s p at n end =
    let units : Taken (List ℕ) = numbers_taken order 2 n s (sought s p at) in
    record {
      value = record { text = unless_refused units.then text.Absent (text_of units.value); place = at };
      then = sought s units.then end;
    }

-- 0 means absent
unfoldable pub text_taken : ByteOrder → List ℕ → Place → ℕ → ℕ → ℕ → Taken TextFound
text_taken order s p body offset long =
    cond (eqb offset 0)
    (record { value = record { text = text.Absent; place = 0 }; then = p })
    (text_at order s p (place_of body offset) (long / 2) (body + 160))

-- ---- the label up to its NUL: its place and length

unfoldable pub label_at : List ℕ → Place → ℕ → ℕ → Taken Label
label_at s p at end =
    let t : Taken ℕ = as_count (core.label_taken s (sought s p at)) in
    record { value = Some (record { place = at; length = t.value }); then = sought s t.then end }

unfoldable pub label_taken : List ℕ → Place → ℕ → ℕ → Taken Label
label_taken s p body offset =
    cond (eqb offset 0)
    (record { value = None; then = p })
    (label_at s p (place_of body offset) (body + 160))

-- ---- the line table if flag bit 6 is set: count u8, all offsets, then all widths

unfoldable pub lines_at : ByteOrder → List ℕ → Place → ℕ → ℕ → Taken LinesFound
lines_at order s p at end =
    let count : Taken ℕ = u8_taken order s (sought s p at) in
    let offsets : Taken (List ℕ) = numbers_taken order 4 count.value s count.then in
    let widths : Taken (List ℕ) = numbers_taken order 4 count.value s offsets.then in
    record { value = record { table = Some count.value; place = at }; then = sought s widths.then end }

unfoldable pub lines_taken : ByteOrder → List ℕ → Place → ℕ → Bool → ℕ → Taken LinesFound
lines_taken order s p body line offset =
    cond (line && not (eqb offset 0))
    (lines_at order s p (place_of body offset) (body + 160))
    (record { value = record { table = None; place = 0 }; then = p })

-- 6: flag bit 4 set and per-character offset nonzero
unfoldable pub per_character_checked : Place → Bool → ℕ → Place
per_character_checked p each offset = stop_if p (each && not (eqb offset 0)) (PerCharacter offset)

-- ---- the numbers that a read gives

-- two columns as pairs
unfoldable pub pairs : List ℕ → List ℕ → List ℕ
pairs [] widths = []
pairs (o ∷ offsets) [] = []
pairs (o ∷ offsets) (w ∷ widths) = o ∷ w ∷ pairs offsets widths

-- a column of a list of pairs: n numbers, every other one from k on
unfoldable pub column : List ℕ → ℕ → ℕ → List ℕ
column l k zero = []
column l k (suc n) = get_or l k 0 ∷ column l (k + 2) n

-- a text read as absent gives no units
abbrev pub units_of : Text → List ℕ → List ℕ
units_of text.Absent units = []
units_of text.Present units = units

-- lines as offset, width pairs
abbrev pub lines_of : ByteOrder → List ℕ → LineTable → ℕ → List ℕ
lines_of order s None at = []
lines_of order s (Some count) at = pairs (numbers_at order 4 count s (at + 1)) (numbers_at order 4 count s (at + 1 + 4 * count))
