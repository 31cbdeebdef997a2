-- Worked examples for Notes 1 and 4 of document 02, by computation: sections at 0 of 140 or 176 bytes whose reach is not the next place, and panes that keep to
-- their section or look past it.
use mathlib.Core.Path.{◌≡◌, refl}
use Prim.Native.Nat.{ℕ}
use mathlib.Core.List.{List, [], ◌∷◌, ◌++◌}
use Rattle.core_read.specs.Bytes.{spelled, part, number_at}
use Rattle.core_read.specs.Taken.{start, advanced, moved, sought, stop_if, number_taken, string_taken, fixed_string_taken, up_to_nul}
use Rattle.core_read.specs.Taken as core
use Rattle.core_read.specs.Lists.{numbers_taken}
use Rattle.core_read.specs.Refusals.{accepted, refused}
use Rattle.core_read.specs.declared.cursor.ByteOrder.TheVariants.{Little}
use Rattle.core_checks.specs.Checks.{length_checked, body_checked, section_checked, body_start, section_start, list_checked, reach_checked, unless_refused, parsed_by_number}
use Rattle.utf8.specs.Utf8 as utf8
use Rattle.utf8.specs.Utf8.{walk, well_formed}
use Rattle.flags.specs.Fields.{text_flags_of}
use Rattle.ui2d.specs.Parts.{vector2_taken, vector3_taken, color_taken, colors_taken}
use Rattle.pane_read.specs.Pane.{pane_taken}
use Rattle.pane_checks.specs.Checks.{name_ill, texts_checked}
use Rattle.text_box_fixed.specs.Fixed as fixed
use Rattle.text_box_parts.specs.Parts.{text_at, text_taken, label_at, label_taken, lines_at, lines_taken, per_character_checked}
use Rattle.text_box_read.specs.TextBox.{assembled, text_box_taken}
use Rattle.text_box_checks.specs.Checks.{label_checked}
use Rattle.text_box.specs.Body.{text_box_measured, text_box_given, text_box_read}
use Rattle.alignment_fields.specs.Alignment.{alignment_taken}
use Rattle.alignment.specs.Body.{alignment_measured, alignment_given, alignment_read, alignment_parsed}
use Rattle.window_head.specs.Head as head
use Rattle.window_read.specs.Window.{content_taken, frames_taken, window_of, window_taken}
use Rattle.window.specs.Body.{window_measured, window_given, window_read}
use Rattle.strip_records.specs.Kinds.{letter_bytes, kind_of}
use Rattle.strip_records.specs.declared.kind.Kind.TheVariants.{Txt1, Wnd1, Ali1}
use Rattle.strip_kinds.specs.Body.{body_read}
use Rattle.strip_header.specs.Header.{read_start, size_bad, header_taken, section_by_number}
use Rattle.strip_header.specs.declared.Section.TheVariants as Sections
use Rattle.strip_read.specs.Read as read
use Rattle.strip_read.specs.Read.{finished, read_body, by_kind, or_refused, refused_with, read_at, read_section}
use Rattle.strip.proofs.Examples.{zeros, full}
use Rattle.std.specs.Prelude.{Ok}

-- a text box whose text begins at the buffer's end, with a length of 1: no unit, so the text is sought and not read
abbrev sought_only : List ℕ
sought_only = letter_bytes Txt1 ++ (176 ∷ zeros 81 ++ (1 ∷ zeros 13 ++ (176 ∷ zeros 75)))

-- a text box with a label of no bytes at 173: its NUL is read
abbrev empty_label : List ℕ
empty_label = letter_bytes Txt1 ++ (176 ∷ zeros 123 ++ (173 ∷ zeros 39 ++ (65 ∷ 65 ∷ 65 ∷ 65 ∷ 65 ∷ 0 ∷ 65 ∷ 65 ∷ [])))

-- a window with no frames, whose table begins at the buffer's end, and whose content ends at 132
abbrev no_frames : List ℕ
no_frames = letter_bytes Wnd1 ++ (140 ∷ zeros 99 ++ (112 ∷ zeros 3 ++ (140 ∷ zeros 31)))

pub record Reaches : Type 0 where
  pub sought : (read_section Little sought_only 0 full).answer ≡ Ok (Sections.Pane 168 176 168)
  pub label : (read_section Little empty_label 0 full).answer ≡ Ok (Sections.Pane 168 176 174)
  pub table : (read_section Little no_frames 0 full).answer ≡ Ok (Sections.Pane 112 140 132)

pub reaches : Reaches
unfolding start advanced moved sought letter_bytes kind_of read_section read_start section_start length_checked section_checked list_checked stop_if or_refused read_at header_taken size_bad by_kind read_body body_read unless_refused finished refused_with pane_taken fixed_string_taken vector2_taken vector3_taken color_taken colors_taken number_taken numbers_taken string_taken core.label_taken up_to_nul part number_at spelled texts_checked name_ill well_formed walk text_flags_of text_box_read text_box_given text_box_measured reach_checked text_box_taken assembled fixed.head_taken fixed.font_taken fixed.shadow_taken text_taken text_at label_taken label_at lines_taken lines_at per_character_checked label_checked window_read window_given window_measured window_taken window_of head.head_taken head.sides_taken content_taken frames_taken
reaches = record { sought = refl; label = refl; table = refl }

-- ---- Note 4: 19 after 7, and only of a section read

-- an alignment pane whose section has 8 bytes, with its 88 behind it
abbrev behind : List ℕ
behind = letter_bytes Ali1 ++ (8 ∷ zeros 91)

-- a text box of 168 bytes whose label, the byte FF, begins behind its section
abbrev label_behind : List ℕ
label_behind = letter_bytes Txt1 ++ (168 ∷ zeros 123 ++ (168 ∷ zeros 39 ++ (255 ∷ 0 ∷ 0 ∷ 0 ∷ [])))

-- a text box of 168 bytes, the last of the buffer but for four, whose text of no units is sought at the buffer's end
abbrev sought_behind : List ℕ
sought_behind = letter_bytes Txt1 ++ (168 ∷ zeros 95 ++ (172 ∷ zeros 71))

pub record Keeps : Type 0 where
  pub past : section_by_number (read_section Little behind 0 full).answer ≡ refused 19 96 8
  pub alone : parsed_by_number (alignment_parsed Little behind 8).answer ≡ accepted (96 ∷ 96 ∷ [])
  pub first : section_by_number (read_section Little label_behind 0 full).answer ≡ refused 7 168 3
  pub sought : section_by_number (read_section Little sought_behind 0 full).answer ≡ accepted (168 ∷ 168 ∷ 168 ∷ [])
  pub measured : section_by_number (read.measured Little behind 0).answer ≡ refused 19 96 8

pub keeps : Keeps
unfolding utf8.table utf8.takes utf8.row_of utf8.fits utf8.sequence_by utf8.sequence alignment_parsed alignment_read alignment_given alignment_measured alignment_taken body_start body_checked read.measured start advanced moved sought letter_bytes kind_of read_section read_start section_start length_checked section_checked list_checked stop_if or_refused read_at header_taken size_bad by_kind read_body body_read unless_refused finished refused_with pane_taken fixed_string_taken vector2_taken vector3_taken color_taken colors_taken number_taken numbers_taken string_taken core.label_taken up_to_nul part number_at spelled texts_checked name_ill well_formed walk text_flags_of text_box_read text_box_given text_box_measured reach_checked text_box_taken assembled fixed.head_taken fixed.font_taken fixed.shadow_taken text_taken text_at label_taken label_at lines_taken lines_at per_character_checked label_checked window_read window_given window_measured window_taken window_of head.head_taken head.sides_taken content_taken frames_taken
keeps = record { past = refl; alone = refl; first = refl; sought = refl; measured = refl }
