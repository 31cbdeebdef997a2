-- What the types of the code guarantee of a record with its lists and label.
use Rattle.std.specs.Prelude.{ℕ, ◌^◌, ◌<◌, List, [], ◌∷◌}
use Rattle.pane_read.specs.Typed.{TypedPane}
use Rattle.picture_fields.specs.Typed.{TypedPicture}
use Rattle.text_box_read.specs.Typed.{TypedTextBox}
use Rattle.window_read.specs.Typed.{TypedWindow}
use Rattle.alignment_fields.specs.Alignment.{TypedAlignment}
use Rattle.strip_records.specs.Whole.{Whole}
use Rattle.strip_records.specs.declared.record.Record.{Record}

-- every number of a list is below n
unfoldable pub Below : ℕ → List ℕ → Type 0
Below n [] = Unit {0}
Below n (x ∷ xs) = (x < n) × Below n xs

pub record TypedRecord (r : Record) : Type 0 where
  pub base : TypedPane r.base
  pub picture : TypedPicture r.picture
  pub text_box : TypedTextBox r.text_box
  pub window : TypedWindow r.window
  pub alignment : TypedAlignment r.alignment

pub record Typed (w : Whole) : Type 0 where
  pub pane : TypedRecord w.pane
  pub quads : Below (256 ^ 4) w.lists.quads
  pub units : Below (256 ^ 2) w.lists.units
  pub lines : Below (256 ^ 4) w.lists.lines
  pub frames : Below (256 ^ 2) w.lists.frames
  pub label : Below 256 w.label
