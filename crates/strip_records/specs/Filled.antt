-- How many numbers of each lent list a record counts: a read of it fills the first so many, and a write of it is to be handed so many.
use Rattle.std.specs.Prelude.{ℕ, ◌*◌, ◌/◌, None, Some}
use Rattle.text_box_parts.specs.declared.Text.{Text}
use Rattle.text_box_parts.specs.declared.Text.TheVariants as text
use Rattle.strip_records.specs.declared.kind.Kind.{Kind}
use Rattle.strip_records.specs.declared.kind.Kind.TheVariants.{Pan1, Pic1, Txt1, Wnd1, Ali1}
use Rattle.strip_records.specs.declared.record.Record.{Record}
use Rattle.text_box_parts.specs.Parts.{LineTable}

-- a text has text_length / 2 units, rounded down; a line table has an offset and a width a line
abbrev pub text_numbers : Text → ℕ → ℕ
text_numbers text.Absent long = 0
text_numbers text.Present long = long / 2

abbrev pub table_numbers : LineTable → ℕ
table_numbers None = 0
table_numbers (Some count) = 2 * count

-- of the lists 1 to 4
pub record Numbers : Type 0 where
  pub quads : ℕ
  pub units : ℕ
  pub lines : ℕ
  pub frames : ℕ

abbrev pub numbers : ℕ → ℕ → ℕ → ℕ → Numbers
numbers quads units lines frames = record { quads = quads; units = units; lines = lines; frames = frames }

-- eight floats a quad, material and flip a frame
abbrev pub numbers_by : Kind → Record → Numbers
numbers_by Pan1 r = numbers 0 0 0 0
numbers_by Pic1 r = numbers (8 * r.picture.quad_count) 0 0 0
numbers_by Txt1 r = numbers 0 (text_numbers r.text_box.text r.text_box.text_length) (table_numbers r.text_box.line_table) 0
numbers_by Wnd1 r = numbers (8 * r.window.content.quad_count) 0 0 (2 * r.window.frame_count)
numbers_by Ali1 r = numbers 0 0 0 0

-- THE NUMBERS OF EACH LIST that a record counts
abbrev pub numbers_of : Record → Numbers
numbers_of r = numbers_by r.kind r

abbrev pub quad_numbers : Record → ℕ
quad_numbers r = (numbers_of r).quads

abbrev pub unit_numbers : Record → ℕ
unit_numbers r = (numbers_of r).units

abbrev pub line_numbers : Record → ℕ
line_numbers r = (numbers_of r).lines

abbrev pub frame_numbers : Record → ℕ
frame_numbers r = (numbers_of r).frames
