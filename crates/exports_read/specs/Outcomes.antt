-- THE READ CALLS: an answer, with the record's words and the lists after it.
use Rattle.std.specs.Prelude.{ℕ, cond, List, length, ltb, leb, Err, Ok}
use Rattle.core_read.specs.Bytes.{splice}
use Rattle.core_read.specs.declared.cursor.ByteOrder.{ByteOrder}
use Rattle.strip_records.specs.Whole.{Lists}
use Rattle.strip_kinds.specs.Body.{body_parsed, lists_parsed}
use Rattle.strip_read.specs.Read.{finished, read_section, lists_after}
use Rattle.strip_records.specs.declared.kind.Kind.{Kind}
use Rattle.strip_records.specs.declared.record.Record.{Record}
use Rattle.strip_kinds.specs.declared.body.BodyRead.{BodyRead}
use Rattle.strip_header.specs.declared.Section.TheVariants as Sections
use Rattle.strip_read.specs.declared.read.SectionRead.{SectionRead}
use Rattle.flat_records.specs.Records.{kind_of, record_words}
use Rattle.exports_answers.specs.Answers.{short_record, bad_word, of_order, section_answer}
use Rattle.exports_answers.specs.declared.answers.Answer.{Answer}
use Rattle.strip_header.specs.Header.{SectionAnswer}

-- an answer, with the record's words and the lists after it
pub record ReadOutcome : Type 0 where
  pub answer : Answer
  pub words : List ℕ
  pub lists : Lists

abbrev pub read_outcome : Answer → List ℕ → Lists → ReadOutcome
read_outcome x w l = record { answer = x; words = w; lists = l }

-- the words of a pane stand at the front; every other answer leaves them
abbrev pub words_after : SectionAnswer → Record → List ℕ → List ℕ
words_after (Ok Sections.End) r w = w
words_after (Ok (Sections.Passed next)) r w = w
words_after (Ok (Sections.Pane end next reach)) r w = splice w 0 (record_words r)
words_after (Err why) r w = w

unfoldable pub delivered : SectionRead → List ℕ → Lists → ReadOutcome
delivered r w l = read_outcome (section_answer r.answer) (words_after r.answer r.«record» w) l

-- the section at p of s; BAD_ORDER and SHORT_RECORD before it
unfoldable pub section_outcome : ℕ → List ℕ → ℕ → Lists → List ℕ → ReadOutcome
section_outcome n s p l w =
    of_order n (λ x. read_outcome x w l) (λ order.
    cond (ltb (length w) 116) (read_outcome short_record w l)
    (delivered (read_section order s p l) w (lists_after order s p l)))

-- as a section whose next place is 0
unfoldable pub body_finished : ByteOrder → Kind → List ℕ → ℕ → Lists → SectionRead
body_finished order kind s body l =
    let b : BodyRead = body_parsed order kind s body l in
    finished b.answer 0 b.«record»

unfoldable pub body_delivered : ByteOrder → Kind → List ℕ → ℕ → Lists → List ℕ → ReadOutcome
body_delivered order kind s body l w = delivered (body_finished order kind s body l) w (lists_parsed order kind s body l)

-- BAD_ORDER, then SHORT_RECORD, then BAD_WORD of the kind, then the body at B
unfoldable pub body_outcome : ℕ → ℕ → List ℕ → ℕ → Lists → List ℕ → ReadOutcome
body_outcome n k s body l w =
    of_order n (λ x. read_outcome x w l) (λ order.
    cond (ltb (length w) 116) (read_outcome short_record w l)
    (cond (leb 5 k) (read_outcome (bad_word 0) w l)
    (body_delivered order (kind_of k) s body l w)))
