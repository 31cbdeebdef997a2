-- A record and its words.
use Rattle.std.specs.Prelude.{ℕ, cond, leb, Option, None, Some, List, [], ◌∷◌, ◌++◌, get_or}
use Rattle.picture_fields.specs.Picture.{blank_picture}
use Rattle.text_box_read.specs.TextBox.{blank_text_box}
use Rattle.window_read.specs.Window.{blank_window}
use Rattle.alignment_fields.specs.Alignment.{blank_alignment}
use Rattle.picture_fields.specs.declared.PicturePane.{PicturePane}
use Rattle.text_box_read.specs.declared.TextBoxPane.{TextBoxPane}
use Rattle.window_read.specs.declared.WindowPane.{WindowPane}
use Rattle.alignment_fields.specs.declared.AlignmentPane.{AlignmentPane}
use Rattle.strip_records.specs.declared.kind.Kind.{Kind}
use Rattle.strip_records.specs.declared.kind.Kind.TheVariants.{Pan1, Pic1, Txt1, Wnd1, Ali1}
use Rattle.strip_records.specs.declared.record.Record.{Record}
use Rattle.flat.specs.Base.{base_words, base_at}
use Rattle.flat_kinds.specs.Own.{picture_words, picture_at, window_words, window_at, alignment_words, alignment_at}
use Rattle.flat_text_box.specs.TextBox.{text_box_words, text_box_at}

-- KIND
abbrev pub kind_number : Kind → ℕ
kind_number Pan1 = 0
kind_number Pic1 = 1
kind_number Txt1 = 2
kind_number Wnd1 = 3
kind_number Ali1 = 4

abbrev pub kind_of : ℕ → Kind
kind_of n = get_or (Pan1 ∷ Pic1 ∷ Txt1 ∷ Wnd1 ∷ []) n Ali1

-- the kind that a number names
abbrev pub kind_at : ℕ → Option Kind
kind_at n = cond (leb 5 n) None (Some (kind_of n))

-- what the kind has beyond the base
unfoldable pub own_words : Kind → Record → List ℕ
own_words Pan1 r = []
own_words Pic1 r = picture_words r.picture
own_words Txt1 r = text_box_words r.text_box
own_words Wnd1 r = window_words r.window
own_words Ali1 r = alignment_words r.alignment

-- THE WORDS OF A RECORD: its kind, its base, and what its kind has
unfoldable pub record_words : Record → List ℕ
record_words r = (kind_number r.kind ∷ []) ++ (base_words r.base ++ own_words r.kind r)

-- what a kind has beyond the base is read for that kind, and blank for the others
abbrev pub picture_by : Kind → List ℕ → PicturePane
picture_by Pan1 w = blank_picture
picture_by Pic1 w = picture_at w
picture_by Txt1 w = blank_picture
picture_by Wnd1 w = blank_picture
picture_by Ali1 w = blank_picture

abbrev pub text_box_by : Kind → List ℕ → TextBoxPane
text_box_by Pan1 w = blank_text_box
text_box_by Pic1 w = blank_text_box
text_box_by Txt1 w = text_box_at w
text_box_by Wnd1 w = blank_text_box
text_box_by Ali1 w = blank_text_box

abbrev pub window_by : Kind → List ℕ → WindowPane
window_by Pan1 w = blank_window
window_by Pic1 w = blank_window
window_by Txt1 w = blank_window
window_by Wnd1 w = window_at w
window_by Ali1 w = blank_window

abbrev pub alignment_by : Kind → List ℕ → AlignmentPane
alignment_by Pan1 w = blank_alignment
alignment_by Pic1 w = blank_alignment
alignment_by Txt1 w = blank_alignment
alignment_by Wnd1 w = blank_alignment
alignment_by Ali1 w = alignment_at w

-- THE RECORD OF WORDS of a kind
unfoldable pub record_by : Kind → List ℕ → Record
record_by k w = record {
  kind = k;
  base = base_at w;
  picture = picture_by k w;
  text_box = text_box_by k w;
  window = window_by k w;
  alignment = alignment_by k w;
}

abbrev pub record_of : List ℕ → Record
record_of w = record_by (kind_of (get_or w 0 0)) w
