-- What was put for a section that is written back is what `back_in` and `back_line` say.
use mathlib.Core.Path.{◌≡◌, refl}
use Prim.Native.Nat.{ℕ}
use mathlib.Core.List.{List, ◌++◌}
use lib.ListN.{length, take, replicate}
use Rattle.core_read.specs.declared.cursor.ByteOrder.TheVariants.{Little}
use Rattle.pane_read.specs.declared.Pane.{Pane}
use Rattle.picture_fields.specs.declared.PicturePane.{PicturePane}
use Rattle.text_box_caption.specs.Caption.{label_of}
use Rattle.text_box_read.specs.declared.TextBoxPane.{TextBoxPane}
use Rattle.window_read.specs.declared.WindowPane.{WindowPane}
use Rattle.alignment_fields.specs.declared.AlignmentPane.{AlignmentPane}
use Rattle.strip_records.specs.Filled.{quad_numbers, unit_numbers, line_numbers, frame_numbers}
use Rattle.strip_records.specs.Held.{held, Filled}
use Rattle.strip_records.specs.Whole.{Lists, lists, Full, Whole, whole}
use Rattle.strip_records.specs.declared.lists.Lists.{Lists as Lent}
use Rattle.std.proofs.lemmas.List.{length-replicate}
use native.Mathlib.Omega.{arith}
use Rattle.strip_records.specs.declared.kind.Kind.{Kind}
use Rattle.strip_records.specs.declared.kind.Kind.TheVariants.{Pan1, Pic1, Txt1, Wnd1, Ali1}
use Rattle.strip_records.specs.declared.record.Record.{Record}
use Rattle.strip_read.specs.Read.{read_section, lists_after}
use Rattle.strip_read.specs.declared.read.SectionRead.{SectionRead}
use Rattle.strip_write.specs.Write.{encode_body, section, own_length_checked, own_name_checked, own_checked, write_checked, write_answer, write_output}
use Rattle.strip.specs.Same.{filled, read_whole}
use Rattle.lines.specs.Answers.{ascii, section_text}
use Rattle.lines.specs.Answered.{full_lists}
use Rattle.lines.specs.Back.{written_text, back_in, back_after, back_line}
use Rattle.core_checks.specs.Checks.{Written}
use Rattle.strip_header.specs.Header.{SectionAnswer}
use Rattle.strip_header.specs.declared.Section.TheVariants as Sections
use Rattle.std.specs.Prelude.{Err, Ok}

-- ---- a write looks at the label of a text box alone, so that it may be handed with a record of any kind

abbrev labelled : List ℕ → Record → Lists → Whole
labelled s r l = record { pane = r; lists = filled r l; label = label_of s r.text_box.label }

abbrev record_by : Kind → Pane → PicturePane → TextBoxPane → WindowPane → AlignmentPane → Record
record_by k b p x w a = record { kind = k; base = b; picture = p; text_box = x; window = w; alignment = a }

kinds_alike : (k : Kind) (b : Pane) (p : PicturePane) (x : TextBoxPane) (w : WindowPane) (a : AlignmentPane) (s o : List ℕ) (l : Lists)
    → back_in o (labelled s (record_by k b p x w a) l) ≡ back_in o (read_whole s (record_by k b p x w a) l)
unfolding back_in write_answer write_output write_checked own_length_checked own_name_checked own_checked section encode_body
kinds_alike Pan1 b p x w a s o l = refl
kinds_alike Pic1 b p x w a s o l = refl
kinds_alike Txt1 b p x w a s o l = refl
kinds_alike Wnd1 b p x w a s o l = refl
kinds_alike Ali1 b p x w a s o l = refl

label_alike : (s o : List ℕ) (r : Record) (l : Lists) → back_in o (labelled s r l) ≡ back_in o (read_whole s r l)
label_alike s o r l = kinds_alike r.kind r.base r.picture r.text_box r.window r.alignment s o l

after_alike : (s : List ℕ) (a : SectionAnswer) (r : Record) (l : Lists) → back_after a (labelled s r l) ≡ back_after a (read_whole s r l)
unfolding back_after
after_alike s (Ok Sections.End) r l = refl
after_alike s (Ok (Sections.Passed next)) r l = refl
after_alike s (Ok (Sections.Pane end next reach)) r l = label_alike s (replicate 32768 0) r l
after_alike s (Err why) r l = refl

-- ---- what was put

pub back_made : (r : Record) (quads units lines frames label o : List ℕ) {q u n f : ℕ} {o' : List ℕ} {written : Written}
    → q ≡ quad_numbers r → u ≡ unit_numbers r → n ≡ line_numbers r → f ≡ frame_numbers r
    → written ≡ write_answer (whole r (take q quads) (take u units) (take n lines) (take f frames) label) (length o) 0
    → o' ≡ write_output Little (whole r (take q quads) (take u units) (take n lines) (take f frames) label) o 0
    → written_text written o' ≡ back_in o (record { pane = r; lists = filled r (lists quads units lines frames); label = label })
unfolding back_in
back_made r quads units lines frames label o q u n f written o' = rw (written, o', q, u, n, f) refl

pub line_made : (s : List ℕ) {r : SectionRead} {l : Lists} {label : List ℕ} → r ≡ read_section Little s 0 full_lists → l ≡ lists_after Little s 0 full_lists
    → label ≡ label_of s r.«record».text_box.label
    → section_text r.answer ++ back_after r.answer (record { pane = r.«record»; lists = filled r.«record» l; label = label }) ++ ascii "\n" ≡ back_line s
unfolding back_line
line_made s read after label = rw (label, after_alike s _ _ _, read, after) refl

-- ---- the lists that are lent at full length

lists_full : Full full_lists
unfolding full_lists
lists_full = record {
  quads = omega (arith, length-replicate {A = ℕ} 2040 0);
  units = omega (arith, length-replicate {A = ℕ} 32767 0);
  lines = omega (arith, length-replicate {A = ℕ} 510 0);
  frames = omega (arith, length-replicate {A = ℕ} 510 0);
}

-- they are as long after a read
pub full_long : {a b : Lent} {l : Lists} → held a ≡ full_lists → Filled a b l → Full (held b)
full_long {a} e h =
    let f : Full (held a) = rw e lists_full in
    record { quads = rw h.quads_long f.quads; units = rw h.units_long f.units; lines = rw h.lines_long f.lines; frames = rw h.frames_long f.frames }
