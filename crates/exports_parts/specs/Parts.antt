-- A call of a record's words; the label and the caption of a record's words.
use Rattle.std.specs.Prelude.{◌≡◌, ℕ, cond, List, length, get_or, ltb, eqb, None, Some, Result, Ok, Err}
use Rattle.text_box_caption.specs.Caption.{within}
use Rattle.flat.specs.declared.words.Words.{Words}
use Rattle.flat_text_box.specs.TextBox.{label_at}
use Rattle.flat_records.specs.Below.{Checked, words_checked}
use Rattle.exports_answers.specs.Answers.{short_record, bad_word, part_answer}
use Rattle.exports_answers.specs.declared.answers.Answer.{Answer}
use Rattle.exports_answers.specs.declared.answers.Fault.{Fault}
use Rattle.exports_answers.specs.declared.answers.Fault.TheVariants as Faults
use Rattle.text_box_parts.specs.Parts.{Label}

-- SHORT_RECORD, then BAD_WORD, and then x
abbrev pub unless_bad : {A : Type 0} → Checked → (Answer → A) → A → A
unless_bad (Ok u) bad x = x
unless_bad (Err b) bad x = bad (bad_word b.index)

unfoldable pub of_record : {A : Type 0} → List ℕ → (Answer → A) → A → A
of_record w bad x = cond (ltb (length w) 116) (bad short_record) (unless_bad (words_checked w) bad x)

-- the test of a record's words by itself
abbrev pub as_fault : Checked → Result (Unit {0}) Fault
as_fault (Ok u) = Ok tt
as_fault (Err b) = Err (Faults.BadWord b.index)

unfoldable pub record_checked : List ℕ → Result (Unit {0}) Fault
record_checked w = cond (ltb (length w) 116) (Err Faults.ShortRecord) (as_fault (words_checked w))

-- what the code answers of that test: the words that passed
abbrev pub Passes : Result Words Fault → List ℕ → Type 0
Passes (Ok r) w = (record_checked w ≡ Ok tt) × (r.words.now ≡ w)
Passes (Err f) w = record_checked w ≡ Err f

-- ---- the label and the caption

-- a record that is no txt1 has no label
abbrev pub label_of_words : List ℕ → Label
label_of_words w = cond (eqb (get_or w 0 0) 2) (label_at w) None

-- the part of the strip where the label stands; another part where it is absent, or where its place and length pass the strip
abbrev pub part_or : List ℕ → Label → Answer → Answer
part_or s None other = other
part_or s (Some span) other = cond (within s span.place span.length) (part_answer 0 span.place span.length) other

-- where `label_of` finds it: the empty part at 0 where there is none
abbrev pub label_part : List ℕ → Label → Answer
label_part s l = part_or s l (part_answer 0 0 0)

-- where `caption_of` finds it
abbrev pub caption_part : List ℕ → Label → List ℕ → Answer
caption_part s l lent = part_or s l (part_answer 1 0 (length lent))

unfoldable pub label_outcome : List ℕ → List ℕ → Answer
label_outcome s w = of_record w (λ x. x) (label_part s (label_of_words w))

unfoldable pub caption_outcome : List ℕ → List ℕ → List ℕ → Answer
caption_outcome s w lent = of_record w (λ x. x) (caption_part s (label_of_words w) lent)
