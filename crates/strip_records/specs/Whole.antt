-- A record taken with its lists and label.
use Rattle.std.specs.Prelude.{ℕ, ◌≤◌, List, [], length}
use Rattle.pane_read.specs.Pane.{blank_pane}
use Rattle.pane_read.specs.declared.Pane.{Pane}
use Rattle.picture_fields.specs.Picture.{blank_picture}
use Rattle.picture_fields.specs.declared.PicturePane.{PicturePane}
use Rattle.text_box_read.specs.TextBox.{blank_text_box}
use Rattle.text_box_read.specs.declared.TextBoxPane.{TextBoxPane}
use Rattle.window_read.specs.Window.{blank_window}
use Rattle.window_read.specs.declared.WindowPane.{WindowPane}
use Rattle.alignment_fields.specs.Alignment.{blank_alignment}
use Rattle.alignment_fields.specs.declared.AlignmentPane.{AlignmentPane}
use Rattle.strip_records.specs.declared.kind.Kind.TheVariants.{Pan1, Pic1, Txt1, Wnd1, Ali1}
use Rattle.strip_records.specs.declared.record.Record.{Record}

-- the lent lists 1 to 4: quads, units, lines, frames
pub record Lists : Type 0 where
  pub quads : List ℕ
  pub units : List ℕ
  pub lines : List ℕ
  pub frames : List ℕ

abbrev pub lists : List ℕ → List ℕ → List ℕ → List ℕ → Lists
lists quads units lines frames = record { quads = quads; units = units; lines = lines; frames = frames }

abbrev pub no_lists : Lists
no_lists = lists [] [] [] []

-- full lists, whatever they hold
pub record Full (l : Lists) : Type 0 where
  pub quads : 2040 ≤ length l.quads
  pub units : 32767 ≤ length l.units
  pub lines : 510 ≤ length l.lines
  pub frames : 510 ≤ length l.frames

-- a record with its lists and label
pub record Whole : Type 0 where
  pub pane : Record
  pub lists : Lists
  pub label : List ℕ

-- as a write is handed it: the lists and the label as lent
abbrev pub whole : Record → List ℕ → List ℕ → List ℕ → List ℕ → List ℕ → Whole
whole r quads units lines frames label = record { pane = r; lists = lists quads units lines frames; label = label }

-- the record beside an answer that is no pane: pan1, numbers +0, first cases, false, absent
unfoldable pub blank_record : Record
blank_record = record {
  kind = Pan1;
  base = blank_pane;
  picture = blank_picture;
  text_box = blank_text_box;
  window = blank_window;
  alignment = blank_alignment;
}

-- a record of each kind: what the other kinds have is blank
abbrev pub pan1 : Pane → Record
pan1 base =
    record { kind = Pan1; base = base; picture = blank_picture; text_box = blank_text_box; window = blank_window; alignment = blank_alignment }

abbrev pub pic1 : Pane → PicturePane → Record
pic1 base x =
    record { kind = Pic1; base = base; picture = x; text_box = blank_text_box; window = blank_window; alignment = blank_alignment }

abbrev pub txt1 : Pane → TextBoxPane → Record
txt1 base x =
    record { kind = Txt1; base = base; picture = blank_picture; text_box = x; window = blank_window; alignment = blank_alignment }

abbrev pub wnd1 : Pane → WindowPane → Record
wnd1 base x =
    record { kind = Wnd1; base = base; picture = blank_picture; text_box = blank_text_box; window = x; alignment = blank_alignment }

abbrev pub ali1 : Pane → AlignmentPane → Record
ali1 base x =
    record { kind = Ali1; base = base; picture = blank_picture; text_box = blank_text_box; window = blank_window; alignment = x }
