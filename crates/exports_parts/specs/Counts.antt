-- How many numbers of each list the words of a record count. Places are those of layout.rt of flat.
use Rattle.std.specs.Prelude.{ℕ, cond, List, [], ◌∷◌, length, get_or, ltb, Result, Ok, Err}
use Rattle.core_read.specs.Bytes.{splice}
use Rattle.strip_records.specs.Filled.{quad_numbers, unit_numbers, line_numbers, frame_numbers}
use Rattle.strip_records.specs.declared.kind.Kind.{Kind}
use Rattle.strip_records.specs.declared.kind.Kind.TheVariants.{Pan1, Pic1, Txt1, Wnd1, Ali1}
use Rattle.strip_records.specs.declared.record.Record.{Record}
use Rattle.flat_records.specs.Records.{kind_of, record_of}
use Rattle.flat_records.specs.Below.{Checked, good, Bound, span, checked_by}
use Rattle.exports_answers.specs.Answers.{short_record, fault_answer, Returned, returned, given}
use Rattle.exports_answers.specs.declared.answers.Fault.{Fault}
use Rattle.exports_parts.specs.Parts.{unless_bad}

-- the words that count: KIND, and those of the kind
abbrev pub count_bounds : Kind → List Bound
count_bounds Pan1 = []
count_bounds Pic1 = span 79 1 256 ∷ []
count_bounds Txt1 = span 63 1 65536 ∷ span 110 1 2 ∷ span 114 1 2 ∷ span 115 1 256 ∷ []
count_bounds Wnd1 = span 74 1 256 ∷ span 92 1 256 ∷ []
count_bounds Ali1 = []

abbrev pub counts_by : Kind → List ℕ → Checked
counts_by k w = checked_by good (span 0 1 5 ∷ count_bounds k) w

unfoldable pub counts_checked : List ℕ → Checked
counts_checked w = counts_by (kind_of (get_or w 0 0)) w

-- FILLED: quads, units, lines, frames
abbrev pub filled_words : Record → List ℕ
filled_words r = quad_numbers r ∷ unit_numbers r ∷ line_numbers r ∷ frame_numbers r ∷ []

-- at the front of f
abbrev pub filled_into : List ℕ → List ℕ → Returned
filled_into f counts = returned 10 (splice f 0 counts)

-- what a call tells of counts, or of the fault that keeps it from counting
abbrev pub filled_told : Result (List ℕ) Fault → List ℕ → Returned
filled_told (Ok counts) f = filled_into f counts
filled_told (Err x) f = given (fault_answer x) f

-- SHORT_RECORD, then BAD_WORD of a word that counts, and then FILLED
unfoldable pub filled_outcome : List ℕ → List ℕ → Returned
filled_outcome w f =
    cond (ltb (length w) 116) (given short_record f)
    (unless_bad (counts_checked w) (λ x. given x f) (filled_into f (filled_words (record_of w))))
