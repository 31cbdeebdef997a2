-- What a call answers: the number that it returns, and its answer's words. Numbers are those of layout.rt of flat.
use Rattle.std.specs.Prelude.{◌≡◌, ℕ, cond, List, [], ◌∷◌, eqb, get_or, Option, Some, None, Result, Err, Ok}
use Rattle.core_read.specs.Bytes.{splice}
use Rattle.core_read.specs.Refusals.{ByNumber, accepted, refused, refusal_by_number}
use Rattle.core_read.specs.declared.cursor.ByteOrder.{ByteOrder}
use Rattle.core_read.specs.declared.cursor.ByteOrder.TheVariants.{Little, Big}
use Rattle.core_read.specs.declared.error.Refusal.{Refusal}
use Rattle.core_checks.specs.Checks.{written_by_number, Written}
use Rattle.strip_header.specs.Header.{section_by_number, SectionAnswer}
use Rattle.strip_header.specs.declared.Section.TheVariants as Sections
use Rattle.exports_answers.specs.declared.answers.Answer.{Answer}
use Rattle.exports_answers.specs.declared.answers.Fault.{Fault}
use Rattle.exports_answers.specs.declared.answers.Fault.TheVariants as Faults
use Rattle.exports_answers.specs.declared.answers.Part.{Part}
use Rattle.exports_answers.specs.declared.answers.PartOf.{PartOf}
use Rattle.exports_answers.specs.declared.answers.PartOf.TheVariants.{Strip, Caption}
use Rattle.strip_header.specs.declared.Section.{Section}

abbrev pub answer : ℕ → ℕ → ℕ → ℕ → Answer
answer code a b c = record { code = code; a = a; b = b; c = c }

-- SHORT_RECORD
abbrev pub short_record : Answer
short_record = answer 5 116 0 0

-- BAD_WORD, of the word at an index
abbrev pub bad_word : ℕ → Answer
bad_word index = answer 6 index 0 0

-- BAD_ORDER, of a number that names no byte order
abbrev pub bad_order : ℕ → Answer
bad_order n = answer 9 n 0 0

-- the byte order that a number names: LITTLE, BIG
unfoldable pub order_of : ℕ → Option ByteOrder
order_of n = cond (eqb n 0) (Some Little) (cond (eqb n 1) (Some Big) None)

-- what a call gives that is handed the number of a byte order: BAD_ORDER of one that names none, after SHORT_ANSWER and before all else
abbrev pub unless_other : {A : Type 0} → Option ByteOrder → A → (ByteOrder → A) → A
unless_other (Some order) bad named = named order
unless_other None bad named = bad

abbrev pub of_order : {A : Type 0} → ℕ → (Answer → A) → (ByteOrder → A) → A
of_order n bad named = unless_other (order_of n) (bad (bad_order n)) named

-- an answer by the papers' numbers as words: what was accepted under its code, its values one after another; REFUSED with number and figures
abbrev pub numbered_answer : ℕ → ByNumber → Answer
numbered_answer code (accepted values) = answer code (get_or values 0 0) (get_or values 1 0) (get_or values 2 0)
numbered_answer code (refused number a b) = answer 4 number a b

-- END, PASSED, PANE; of a refusal the code says nothing
abbrev pub section_code : SectionAnswer → ℕ
section_code (Ok Sections.End) = 0
section_code (Ok (Sections.Passed next)) = 1
section_code (Ok (Sections.Pane end next reach)) = 2
section_code (Err why) = 4

abbrev pub section_answer : SectionAnswer → Answer
section_answer s = numbered_answer (section_code s) (section_by_number s)

-- WRITTEN
abbrev pub written_answer : Written → Answer
written_answer w = numbered_answer 3 (written_by_number w)

-- REFUSED
abbrev pub refused_answer : Refusal → Answer
refused_answer why = numbered_answer 4 (refusal_by_number why)

-- PART: of the strip (0) or of the lent caption (1), from a place on, so many bytes
abbrev pub part_answer : ℕ → ℕ → ℕ → Answer
part_answer which place long = answer 8 which place long

-- ---- a call's outcome: what it did, or the fault that keeps it from doing anything

-- what it is told as that a number names no byte order
abbrev pub or_bad_order : ℕ → Option ByteOrder → Result ByteOrder Fault
or_bad_order n (Some order) = Ok order
or_bad_order n None = Err (Faults.BadOrder n)

abbrev pub fault_answer : Fault → Answer
fault_answer Faults.ShortRecord = short_record
fault_answer (Faults.BadWord index) = bad_word index
fault_answer (Faults.BadOrder n) = bad_order n
fault_answer (Faults.Refused why) = refused_answer why

-- an answer of what a call did, by what makes an answer of that; or the fault's
abbrev pub Told : {A : Type 0} → (A → Answer → Type 0) → Result A Fault → Answer → Type 0
Told makes (Ok x) a = makes x a
Told makes (Err f) a = a ≡ fault_answer f

abbrev pub section_told : Result Section Fault → Answer
section_told (Ok s) = section_answer (Ok s)
section_told (Err f) = fault_answer f

abbrev pub written_told : Result ℕ Fault → Answer
written_told (Ok end) = written_answer (Ok end)
written_told (Err f) = fault_answer f

-- the number of the bytes that a part is of
abbrev pub which : PartOf → ℕ
which Strip = 0
which Caption = 1

abbrev pub part_told : Result Part Fault → Answer
part_told (Ok x) = part_answer (which x.of) x.place x.length
part_told (Err f) = fault_answer f

-- ---- what the caller sees: the number returned, and the answer's words

abbrev pub answer_words : Answer → List ℕ
answer_words x = x.a ∷ x.b ∷ x.c ∷ []

pub record Returned : Type 0 where
  pub code : ℕ
  pub words : List ℕ

abbrev pub returned : ℕ → List ℕ → Returned
returned code a = record { code = code; words = a }

unfoldable pub given : Answer → List ℕ → Returned
given x a = returned x.code (splice a 0 (answer_words x))
