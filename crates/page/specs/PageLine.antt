-- The line that the program `page` prints of a section, from the place of the section and what a read of it answered.
use Rattle.std.specs.Prelude.{ℕ, ◌-◌, Bool, true, false, cond, List, ◌++◌, take, eqb, Err, Ok}
use Rattle.core_read.specs.Bytes.{part}
use Rattle.core_read.specs.declared.error.Refusal.{Refusal}
use Rattle.core_read.specs.Refusals.{number_of, figure_a, figure_b}
use Rattle.core_read.specs.declared.text.FixedString.{FixedString}
use Rattle.escapes.specs.Escaped.{escaped}
use Rattle.lines.specs.Answers.{ascii, figure, refusal_text}
use Rattle.lines.specs.Decimal.{decimal}
use Rattle.strip_header.specs.declared.Section.TheVariants.{End, Passed, Pane}
use Rattle.strip_records.specs.Kinds.{letter_bytes}
use Rattle.strip_records.specs.declared.kind.Kind.{Kind}
use Rattle.strip_header.specs.Header.{SectionAnswer}

-- ---- the parts of a line

-- a number with a text before and after it
abbrev pub numbered : List ℕ → ℕ → List ℕ → List ℕ
numbered before n after = before ++ decimal n ++ after

-- "TEXT", the text as it is shown; with all, every byte beyond ASCII is written out
unfoldable pub quoted : Bool → List ℕ → List ℕ
quoted all s = ascii "\"" ++ escaped all s ++ ascii "\""

-- at PLACE
unfoldable pub place_text : ℕ → List ℕ
place_text place = ascii " at" ++ figure place

-- at PLACE, SIZE bytes: the size from a place to the next
unfoldable pub size_text : ℕ → ℕ → List ℕ
size_text place next = place_text place ++ ascii "," ++ figure (next - place) ++ ascii " bytes"

-- ---- the sentences of docs/REFUSALS.md by number and figures, those that a walk over a page gives

unfoldable pub string_text : ℕ → List ℕ
string_text which = cond (eqb which 1) (ascii "pane name") (cond (eqb which 2) (ascii "user name") (cond (eqb which 3) (ascii "label") (ascii "string")))

unfoldable pub eof_text : ℕ → ℕ → List ℕ
eof_text a b = ascii "the bytes run out: " ++ decimal b ++ ascii " asked for at " ++ decimal a

unfoldable pub no_nul_text : ℕ → List ℕ
no_nul_text a = ascii "the label at " ++ decimal a ++ ascii " meets no NUL before the end of the buffer"

unfoldable pub per_character_text : ℕ → List ℕ
per_character_text a = ascii "the text box has a per-character transform at offset " ++ decimal a ++ ascii ", which is not read"

unfoldable pub ill_formed_text : ℕ → ℕ → List ℕ
ill_formed_text a b = ascii "the " ++ string_text b ++ ascii " at " ++ decimal a ++ ascii " is ill-formed UTF-8"

unfoldable pub section_size_text : ℕ → ℕ → List ℕ
section_size_text a b = ascii "the section size " ++ decimal b ++ ascii " at " ++ decimal a ++ ascii " is below 8, no multiple of 4, or passes the buffer"

unfoldable pub past_section_text : ℕ → ℕ → List ℕ
past_section_text a b = ascii "the pane looks as far as " ++ decimal a ++ ascii ", past the end of its section at " ++ decimal b

unfoldable pub sentence : ℕ → ℕ → ℕ → List ℕ
sentence number a b =
    cond (eqb number 4) (eof_text a b)
    (cond (eqb number 5) (no_nul_text a)
    (cond (eqb number 6) (per_character_text a)
    (cond (eqb number 7) (ill_formed_text a b)
    (cond (eqb number 8) (section_size_text a b)
    (cond (eqb number 19) (past_section_text a b)
    (ascii "no walk over a page gives this"))))))

-- ---- the lines, without their end

-- pan1 "NAME" at PLACE, SIZE bytes
unfoldable pub pane_text : Kind → FixedString 24 → ℕ → ℕ → List ℕ
pane_text kind name place next = letter_bytes kind ++ ascii " " ++ quoted false (take name.count name.bytes) ++ size_text place next

-- pass "LETTERS" at PLACE, SIZE bytes
unfoldable pub pass_text : List ℕ → ℕ → ℕ → List ℕ
pass_text letters place next = ascii "pass " ++ quoted true letters ++ size_text place next

-- no NUMBER a b at PLACE: SENTENCE
unfoldable pub refused_text : Refusal → ℕ → List ℕ
refused_text why place = refusal_text why ++ place_text place ++ ascii ": " ++ sentence (number_of why) (figure_a why) (figure_b why)

-- end at PLACE
unfoldable pub end_text : ℕ → List ℕ
end_text place = ascii "end" ++ place_text place

-- what is said of the section at a place of the page s; kind and name are those of the pane that was read
unfoldable pub page_text : List ℕ → ℕ → SectionAnswer → Kind → FixedString 24 → List ℕ
page_text s place (Ok End) kind name = end_text place
page_text s place (Ok (Passed next)) kind name = pass_text (part 4 s place) place next
page_text s place (Ok (Pane end next reach)) kind name = pane_text kind name place next
page_text s place (Err why) kind name = refused_text why place

-- the same as a line
unfoldable pub page_line : List ℕ → ℕ → SectionAnswer → Kind → FixedString 24 → List ℕ
page_line s place answer kind name = page_text s place answer kind name ++ ascii "\n"
