-- What the types of the code guarantee of a record, and what a read leaves blank: the laws on words coming back ask it.
use Rattle.std.specs.Prelude.{◌≡◌, ℕ, ◌<◌, List, get_or, None, Some}
use Rattle.picture_fields.specs.Picture.{blank_picture}
use Rattle.text_box_read.specs.TextBox.{blank_text_box}
use Rattle.window_read.specs.Window.{blank_window}
use Rattle.alignment_fields.specs.Alignment.{blank_alignment}
use Rattle.strip_records.specs.Typed.{Below, TypedRecord}
use Rattle.strip_records.specs.declared.kind.Kind.{Kind}
use Rattle.strip_records.specs.declared.kind.Kind.TheVariants.{Pan1, Pic1, Txt1, Wnd1, Ali1}
use Rattle.strip_records.specs.declared.record.Record.{Record}
use Rattle.text_box_parts.specs.Parts.{LineTable}

abbrev pub TypedLines : LineTable → Type 0
TypedLines None = Unit {0}
TypedLines (Some count) = count < 256

pub record TypedWords (r : Record) : Type 0 where
  pub fields : TypedRecord r
  pub name : Below 256 r.base.pane_name.bytes
  pub user : Below 256 r.base.user_name.bytes
  pub lines : TypedLines r.text_box.line_table
  pub frames : r.window.frame_count < 256
  pub quads : r.window.content.quad_count < 256

-- what the other kinds have is blank
abbrev pub OthersBlank : Kind → Record → Type 0
OthersBlank Pan1 r = (r.picture ≡ blank_picture) × (r.text_box ≡ blank_text_box) × (r.window ≡ blank_window) × (r.alignment ≡ blank_alignment)
OthersBlank Pic1 r = (r.text_box ≡ blank_text_box) × (r.window ≡ blank_window) × (r.alignment ≡ blank_alignment)
OthersBlank Txt1 r = (r.picture ≡ blank_picture) × (r.window ≡ blank_window) × (r.alignment ≡ blank_alignment)
OthersBlank Wnd1 r = (r.picture ≡ blank_picture) × (r.text_box ≡ blank_text_box) × (r.alignment ≡ blank_alignment)
OthersBlank Ali1 r = (r.picture ≡ blank_picture) × (r.text_box ≡ blank_text_box) × (r.window ≡ blank_window)

-- words in which what is absent is 0: a shape; a label and a line table
abbrev pub Plain : Kind → List ℕ → Type 0
Plain Pan1 w = Unit {0}
Plain Pic1 w = get_or w 80 0 ≡ 0 → get_or w 81 0 ≡ 0
Plain Txt1 w = (get_or w 111 0 ≡ 0 → (get_or w 112 0 ≡ 0) × (get_or w 113 0 ≡ 0)) × (get_or w 114 0 ≡ 0 → get_or w 115 0 ≡ 0)
Plain Wnd1 w = Unit {0}
Plain Ali1 w = Unit {0}

-- words in which each count is a byte: of quads; of lines; of frames and of the content's quads
abbrev pub Counted : Kind → List ℕ → Type 0
Counted Pan1 w = Unit {0}
Counted Pic1 w = get_or w 79 0 < 256
Counted Txt1 w = get_or w 115 0 < 256
Counted Wnd1 w = (get_or w 74 0 < 256) × (get_or w 92 0 < 256)
Counted Ali1 w = Unit {0}
