-- THE CALLS: what a caller has after each, from what it lent.
use Rattle.std.specs.Prelude.{ℕ, cond, List, length, ltb}
use Rattle.strip_records.specs.Whole.{Lists, Whole}
use Rattle.strip_write.specs.Write.{write_answer, write_output}
use Rattle.flat_records.specs.Records.{record_of}
use Rattle.exports_answers.specs.Answers.{of_order, written_answer, Returned, returned, given}
use Rattle.flat_write.specs.Bodies.{body_answer, body_output}
use Rattle.exports_parts.specs.Counts.{filled_outcome}
use Rattle.exports_parts.specs.Parts.{of_record, label_outcome, caption_outcome}
use Rattle.exports_read.specs.Outcomes.{ReadOutcome, section_outcome, body_outcome}
use Rattle.exports_answers.specs.declared.answers.Answer.{Answer}

-- ---- writes

-- an answer, with the output after it
pub record WriteOutcome : Type 0 where
  pub answer : Answer
  pub out : List ℕ

abbrev pub write_outcome : Answer → List ℕ → WriteOutcome
write_outcome x o = record { answer = x; out = o }

-- the record of the words with its lists and label
abbrev pub whole_of : List ℕ → Lists → List ℕ → Whole
whole_of w l label = record { pane = record_of w; lists = l; label = label }

unfoldable pub section_written : ℕ → List ℕ → Lists → List ℕ → List ℕ → ℕ → WriteOutcome
section_written n w l label o p =
    of_order n (λ x. write_outcome x o) (λ order.
    of_record w (λ x. write_outcome x o)
    (write_outcome (written_answer (write_answer (whole_of w l label) (length o) p)) (write_output order (whole_of w l label) o p)))

unfoldable pub body_written : ℕ → List ℕ → Lists → List ℕ → List ℕ → ℕ → WriteOutcome
body_written n w l label o body =
    of_order n (λ x. write_outcome x o) (λ order.
    of_record w (λ x. write_outcome x o)
    (write_outcome (written_answer (body_answer (record_of w).kind (whole_of w l label) (length o) body)) (body_output order (record_of w).kind (whole_of w l label) o body)))

-- ---- what the caller sees: the number returned and the answer's words beside the rest. SHORT_ANSWER comes before all

pub record ReadSeen : Type 0 where
  pub back : Returned
  pub words : List ℕ
  pub lists : Lists

abbrev pub read_seen : Returned → List ℕ → Lists → ReadSeen
read_seen b w l = record { back = b; words = w; lists = l }

unfoldable pub seen_read : ReadOutcome → List ℕ → List ℕ → Lists → ReadSeen
seen_read o a w l = cond (ltb (length a) 3) (read_seen (returned 7 a) w l) (read_seen (given o.answer a) o.words o.lists)

pub record WriteSeen : Type 0 where
  pub back : Returned
  pub out : List ℕ

abbrev pub write_seen : Returned → List ℕ → WriteSeen
write_seen b o = record { back = b; out = o }

unfoldable pub seen_write : WriteOutcome → List ℕ → List ℕ → WriteSeen
seen_write x a o = cond (ltb (length a) 3) (write_seen (returned 7 a) o) (write_seen (given x.answer a) x.out)

unfoldable pub seen_part : Answer → List ℕ → Returned
seen_part x a = cond (ltb (length a) 3) (returned 7 a) (given x a)

-- ---- THE SEVEN CALLS, of what is lent: bytes s, a place, lists l, the record's words w, the answer's words a, the words f for the counts; four of them of the number n of a byte order too

abbrev pub read_section_call : ℕ → List ℕ → ℕ → Lists → List ℕ → List ℕ → ReadSeen
read_section_call n s p l w a = seen_read (section_outcome n s p l w) a w l

abbrev pub read_body_call : ℕ → ℕ → List ℕ → ℕ → Lists → List ℕ → List ℕ → ReadSeen
read_body_call n k s body l w a = seen_read (body_outcome n k s body l w) a w l

abbrev pub write_section_call : ℕ → List ℕ → Lists → List ℕ → List ℕ → ℕ → List ℕ → WriteSeen
write_section_call n w l label o p a = seen_write (section_written n w l label o p) a o

abbrev pub write_body_call : ℕ → List ℕ → Lists → List ℕ → List ℕ → ℕ → List ℕ → WriteSeen
write_body_call n w l label o body a = seen_write (body_written n w l label o body) a o

abbrev pub label_call : List ℕ → List ℕ → List ℕ → Returned
label_call s w a = seen_part (label_outcome s w) a

abbrev pub caption_call : List ℕ → List ℕ → List ℕ → List ℕ → Returned
caption_call s w lent a = seen_part (caption_outcome s w lent) a

unfoldable pub filled_call : List ℕ → List ℕ → Returned
filled_call w f = cond (ltb (length f) 4) (returned 7 f) (filled_outcome w f)
