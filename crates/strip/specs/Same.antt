-- A record with its lists and label as a read gives it, and when two of these are equal.
use Rattle.std.specs.Prelude.{◌≡◌, ℕ, List, [], take}
use Rattle.pane.specs.Same.{SamePane}
use Rattle.picture_fields.specs.Same.{SamePicture}
use Rattle.text_box_caption.specs.Caption.{label_of}
use Rattle.text_box.specs.Same.{SameTextBox}
use Rattle.text_box.specs.Same as text-box
use Rattle.window.specs.Same.{SameWindow}
use Rattle.strip_records.specs.Filled.{quad_numbers, unit_numbers, line_numbers, frame_numbers}
use Rattle.strip_records.specs.Whole.{Lists, lists, Whole}
use Rattle.strip_records.specs.declared.kind.Kind.{Kind}
use Rattle.strip_records.specs.declared.kind.Kind.TheVariants.{Pan1, Pic1, Txt1, Wnd1, Ali1}
use Rattle.strip_records.specs.declared.record.Record.{Record}

-- the numbers of the lists that a read of the record fills: the first of each list, as many as the record counts
abbrev pub filled : Record → Lists → Lists
filled r l = lists (take (quad_numbers r) l.quads) (take (unit_numbers r) l.units) (take (line_numbers r) l.lines) (take (frame_numbers r) l.frames)

-- the label of a record in the strip s
abbrev pub label_by : Kind → List ℕ → Record → List ℕ
label_by Pan1 s r = []
label_by Pic1 s r = []
label_by Txt1 s r = label_of s r.text_box.label
label_by Wnd1 s r = []
label_by Ali1 s r = []

abbrev pub label_in : List ℕ → Record → List ℕ
label_in s r = label_by r.kind s r

-- as a read gives it: the numbers that it filled of the lists as they stand right after it, and its label in the strip s
abbrev pub read_whole : List ℕ → Record → Lists → Whole
read_whole s r l = record { pane = r; lists = filled r l; label = label_in s r }

-- ---- equality: the kind, and every field of that kind

-- a text box with its lists and label
abbrev pub box_of : Whole → text-box.Whole
box_of w = record { box = w.pane.text_box; units = w.lists.units; lines = w.lists.lines; label = w.label }

-- what a kind has beyond the base
unfoldable pub SameOwn : Kind → Whole → Whole → Type 0
SameOwn Pan1 a b = Unit {0}
SameOwn Pic1 a b = SamePicture a.pane.picture a.lists.quads b.pane.picture b.lists.quads
SameOwn Txt1 a b = SameTextBox (box_of a) (box_of b)
SameOwn Wnd1 a b = SameWindow a.pane.window a.lists.quads a.lists.frames b.pane.window b.lists.quads b.lists.frames
SameOwn Ali1 a b = a.pane.alignment ≡ b.pane.alignment

pub record Same (a b : Whole) : Type 0 where
  pub kind : a.pane.kind ≡ b.pane.kind
  pub base : SamePane a.pane.base b.pane.base
  pub own : SameOwn a.pane.kind a b
