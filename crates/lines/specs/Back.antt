-- What a line of input prints where each pane that was read is written back: the section at place 0, written at place 0 of 32,768 zeros.
use Rattle.std.specs.Prelude.{ℕ, ◌/◌, cond, List, [], ◌++◌, length, take, replicate, Err, Ok}
use Rattle.core_read.specs.declared.cursor.ByteOrder.TheVariants.{Little}
use Rattle.digits.specs.Digits.{even_line}
use Rattle.digits.specs.declared.Line.{Line}
use Rattle.strip_header.specs.declared.Section.TheVariants.{End, Passed, Pane}
use Rattle.strip_records.specs.Held.{handed}
use Rattle.strip_records.specs.Whole.{Whole}
use Rattle.strip_records.specs.declared.lists.Content.{Content}
use Rattle.strip_records.specs.declared.record.Record.{Record}
use Rattle.strip_read.specs.Read.{read_section, lists_after}
use Rattle.strip_read.specs.declared.read.SectionRead.{SectionRead}
use Rattle.strip_write.specs.Write.{write_answer, write_output}
use Rattle.strip.specs.Same.{filled, read_whole}
use Rattle.lines.specs.Answers.{ascii, refusal_text, section_text, bad_text}
use Rattle.lines.specs.Answered.{full_lists}
use Rattle.lines.specs.Hexadecimal.{hexadecimal}
use Rattle.core_checks.specs.Checks.{Written}
use Rattle.strip_header.specs.Header.{SectionAnswer}

-- a record with as many numbers of each list that is handed with it as it counts
abbrev pub counted : Record → Content → Whole
counted r c = record { pane = r; lists = filled r (handed r c).lists; label = c.label.now }

-- a space, and the output o up to the end of what was written, or the refusal of the write
unfoldable pub written_text : Written → List ℕ → List ℕ
written_text (Ok end) o = ascii " " ++ hexadecimal (take end o)
written_text (Err why) o = ascii " " ++ refusal_text why

-- the section of w written at place 0 of the output o
unfoldable pub back_in : List ℕ → Whole → List ℕ
back_in o w = written_text (write_answer w (length o) 0) (write_output Little w o 0)

-- after the answer of a read: the pane w written back, and nothing after any other answer
unfoldable pub back_after : SectionAnswer → Whole → List ℕ
back_after (Ok End) w = []
back_after (Ok (Passed next)) w = []
back_after (Ok (Pane end next reach)) w = back_in (replicate 32768 0) w
back_after (Err why) w = []

-- the line of the section at place 0 of s; what is written back is the pane as the read gives it, with as many numbers of each list as it counts
unfoldable pub back_line : List ℕ → List ℕ
back_line s =
    let r : SectionRead = read_section Little s 0 full_lists in
    section_text r.answer ++ back_after r.answer (read_whole s r.«record» (lists_after Little s 0 full_lists)) ++ ascii "\n"

-- what a line prints whose digits have filled these bytes: two digits a byte, or it spells none
unfoldable pub back_to : List ℕ → Line → List ℕ
back_to bytes l = cond (even_line l (length bytes)) (back_line (take (l.digits / 2) bytes)) bad_text
