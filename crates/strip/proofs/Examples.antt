-- Worked examples of document 01's group M, and of Note 6 of document 02. Those on packed fields stand in `flags`, the one on a float in `ui2d`, those on windows in `window`.
use mathlib.Core.Path.{◌≡◌, refl, ap, ◌∙◌}
use mathlib.Core.List.{List, [], ◌∷◌, ◌++◌}
use Prim.Native.Nat.{ℕ, ◌+◌, ◌^◌, ◌<◌}
use native.Mathlib.Omega.{arith}
use lib.ListN.{length, replicate, length-append, length-replicate}
use Rattle.core_read.specs.Bytes.{le, spelled, bytes_of, part, number_at, padding}
use Rattle.core_read.specs.Refusals.{accepted, refused}
use Rattle.core_read.specs.Taken.{start, advanced, stop_if, number_taken, string_taken, fixed_string_taken, up_to_nul}
use Rattle.core_checks.specs.Checks.{length_checked, body_checked, section_checked, body_start, section_start, list_checked, reach_checked, unless_refused, parsed_by_number}
use Rattle.core_read.specs.declared.cursor.ByteOrder.{ByteOrder}
use Rattle.core_read.specs.declared.cursor.ByteOrder.TheVariants.{Little, Big}
use Rattle.core_read.proofs.Numbers.{length_bytes}
use Rattle.core_read.proofs.Back.{holds_whole, holds_left, holds_right, number_stands}
use Rattle.utf8.specs.Utf8.{walk, well_formed}
use Rattle.ui2d.specs.Parts.{vector2_taken, vector3_taken}
use Rattle.pane_read.specs.Pane.{pane_taken, Sound}
use Rattle.pane_checks.specs.Checks.{name_ill, texts_checked}
use Rattle.pane.specs.Body.{pane_measured, pane_given, pane_read, pane_parsed}
use Rattle.text_box_write.specs.Written.{text_box_length}
use Rattle.text_box.proofs.Examples.{OneEach, At8, text_box_at_8}
use Rattle.alignment_fields.specs.Alignment.{alignment_taken}
use Rattle.alignment.specs.Body.{alignment_measured, alignment_given, alignment_read}
use Rattle.strip_records.specs.Kinds.{letter_bytes, kind_of}
use Rattle.strip_records.specs.Whole.{Whole, Lists, lists}
use Rattle.strip_kinds.specs.Body.{body_read}
use Rattle.strip_read.specs.Read.{finished, read_body, by_kind, or_refused, refused_with, ended_with, read_at, read_section}
use Rattle.strip_header.specs.Header.{read_start, size_bad, header_taken, section_by_number}
use Rattle.strip_write.specs.Write.{body_length, encode_body, section_size, section}
use Rattle.strip_records.specs.declared.kind.Kind.{Kind}
use Rattle.strip_records.specs.declared.kind.Kind.TheVariants.{Txt1, Ali1}
use Rattle.strip.proofs.Back.{length_letters}

abbrev pub zeros : ℕ → List ℕ
zeros n = replicate n 0

-- a body at 8, of a buffer of 8, 12, 13 and 37 zeros: 4 with (8, 1), (12, 24), (13, 8), (37, 4)
pub record Short : Type 0 where
  pub eight : parsed_by_number (pane_parsed Little (zeros 8) 8).answer ≡ refused 4 8 1
  pub twelve : parsed_by_number (pane_parsed Little (zeros 12) 8).answer ≡ refused 4 12 24
  pub thirteen : parsed_by_number (pane_parsed Little (zeros 13) 8).answer ≡ refused 4 13 8
  pub thirty_seven : parsed_by_number (pane_parsed Little (zeros 37) 8).answer ≡ refused 4 37 4

pub short : Short
unfolding start advanced pane_parsed pane_read pane_given pane_measured reach_checked unless_refused body_start length_checked body_checked stop_if texts_checked pane_taken fixed_string_taken vector2_taken vector3_taken number_taken string_taken up_to_nul part number_at spelled
short = record { eight = refl; twelve = refl; thirteen = refl; thirty_seven = refl }

-- a text box at 8, one unit, a label of two bytes, one line: offsets 168, 172, 176; body 177, size 188
pub record TextBoxAt8 (order : ByteOrder) (w : Whole) : Type 0 where
  pub laid : At8 order (encode_body Txt1 order 8 w)
  pub size : number_at order 4 (section order 0 w) 4 ≡ 188
  pub bytes : length (section order 0 w) ≡ 188

module _ (order : ByteOrder) (w : Whole) (kind : w.pane.kind ≡ Txt1) (sound : Sound w.pane.base)
    (each : OneEach w.pane.text_box w.lists.units w.lists.lines w.label) where
  text_box_laid : At8 order (encode_body Txt1 order 8 w)
  unfolding encode_body
  text_box_laid = text_box_at_8 order w.pane.base w.pane.text_box w.lists.units w.lists.lines w.label sound each

  text_box_long : body_length Txt1 8 w ≡ 177
  unfolding text_box_length padding
  text_box_long = rw (each.text, each.name, each.table)

  -- the four letters are followed by the size
  size_stands : (letters rest : List ℕ) (z : ℕ) → length letters ≡ 4 → z < 256 ^ 4 → number_at order 4 (letters ++ (bytes_of order 4 z ++ rest)) 4 ≡ z
  size_stands letters rest z e h =
      number_stands order 4 z h (holds_left (bytes_of order 4 z) rest (holds_right letters (bytes_of order 4 z ++ rest) 4 e (holds_whole (letters ++ (bytes_of order 4 z ++ rest)))))

  text_box_size : number_at order 4 (section order 0 w) 4 ≡ 188
  unfolding section section_size padding letter_bytes
  text_box_size = rw (kind, text_box_long) (size_stands (letter_bytes Txt1) _ 188 refl (omega arith))

  -- letters, size, body and zeros
  section_long : length (section order 0 w) ≡ 4 + (4 + (length (encode_body w.pane.kind order 8 w) + padding (body_length w.pane.kind 8 w)))
  unfolding section
  section_long = rw (length-append, length-append, length-append, length_letters w.pane.kind, length_bytes, length-replicate)

  text_box_bytes : length (section order 0 w) ≡ 188
  unfolding padding
  text_box_bytes =
      section_long
      ∙ ap (λ (k : Kind). 4 + (4 + (length (encode_body k order 8 w) + padding (body_length k 8 w)))) kind
      ∙ rw (text_box_laid.body, text_box_long)

  pub text_box_section : TextBoxAt8 order w
  text_box_section = record { laid = text_box_laid; size = text_box_size; bytes = text_box_bytes }

abbrev pub full : Lists
full = lists (zeros 2040) (zeros 32767) (zeros 510) (zeros 510)

-- the three lines of the program's example: the end; 4 with (8, 1); a pane, its end, next section and reach
pub record Lines : Type 0 where
  pub empty : section_by_number (read_section Little [] 0 full).answer ≡ accepted []
  pub bare : section_by_number (read_section Little (letter_bytes Ali1 ++ (8 ∷ 0 ∷ 0 ∷ 0 ∷ [])) 0 full).answer ≡ refused 4 8 1
  pub whole : section_by_number (read_section Little (letter_bytes Ali1 ++ (96 ∷ 0 ∷ 0 ∷ 0 ∷ zeros 88)) 0 full).answer ≡ accepted (96 ∷ 96 ∷ 96 ∷ [])

pub three_lines : Lines
unfolding start advanced letter_bytes kind_of read_section read_start section_start length_checked section_checked list_checked stop_if or_refused read_at header_taken size_bad by_kind read_body body_read alignment_read alignment_given alignment_measured reach_checked unless_refused finished refused_with ended_with pane_taken fixed_string_taken vector2_taken vector3_taken alignment_taken number_taken string_taken up_to_nul part number_at spelled texts_checked name_ill well_formed walk
three_lines = record { empty = refl; bare = refl; whole = refl }

abbrev float : List ℕ
float = 0x7F ∷ 0x80 ∷ 0x00 ∷ 0x01 ∷ []

-- the other byte order: sizes and floats the other way round, letters as they are
pub record Turned : Type 0 where
  pub bare : section_by_number (read_section Big (letter_bytes Ali1 ++ (0 ∷ 0 ∷ 0 ∷ 8 ∷ [])) 0 full).answer ≡ refused 4 8 1
  pub beyond : section_by_number (read_section Big (letter_bytes Ali1 ++ (8 ∷ 0 ∷ 0 ∷ 0 ∷ [])) 0 full).answer ≡ refused 8 4 134217728
  pub whole : section_by_number (read_section Big (letter_bytes Ali1 ++ (0 ∷ 0 ∷ 0 ∷ 96 ∷ zeros 88)) 0 full).answer ≡ accepted (96 ∷ 96 ∷ 96 ∷ [])
  pub number : number_at Big 4 float 0 ≡ 0x7F800001
  pub back : bytes_of Big 4 (number_at Big 4 float 0) ≡ float

pub turned : Turned
unfolding start advanced letter_bytes kind_of read_section read_start section_start length_checked section_checked list_checked stop_if or_refused read_at header_taken size_bad by_kind read_body body_read alignment_read alignment_given alignment_measured reach_checked unless_refused finished refused_with ended_with pane_taken fixed_string_taken vector2_taken vector3_taken alignment_taken number_taken string_taken up_to_nul part number_at spelled bytes_of le texts_checked name_ill well_formed walk
turned = record { bare = refl; beyond = refl; whole = refl; number = refl; back = refl }
