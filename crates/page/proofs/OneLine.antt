-- What is said of a section is one line: whatever the page holds, no byte of it is a control character, so that the line feed behind it is the only one.
use mathlib.Core.Path.{◌≡◌, refl}
use mathlib.Core.Bool.{Bool, true, false, cond}
use Prim.Native.Nat.{ℕ, zero, suc, ◌+◌, ◌-◌, ◌/◌, ◌%◌}
use native.Mathlib.Omega.{arith}
use mathlib.Core.List.{List, [], ◌∷◌, ◌++◌}
use lib.Dec.{ltb, eqb}
use Rattle.core_read.specs.Refusals.{number_of, figure_a, figure_b}
use Rattle.core_read.specs.declared.error.Refusal.{Refusal}
use Rattle.core_read.specs.declared.text.FixedString.{FixedString}
use Rattle.escapes.specs.Escaped.{control, escaped, has_control}
use Rattle.escapes.proofs.Laws.{not_control, control_append, no_control}
use Rattle.lines.specs.Answers.{ascii, figure, refusal_text}
use Rattle.lines.specs.Decimal.{decimal_in, decimal}
use Rattle.strip_header.specs.declared.Section.TheVariants.{End, Passed, Pane}
use Rattle.strip_records.specs.Kinds.{letter_bytes}
use Rattle.strip_records.specs.declared.kind.Kind.{Kind}
use Rattle.strip_records.specs.declared.kind.Kind.TheVariants.{Pan1, Pic1, Txt1, Wnd1, Ali1}
use Rattle.page.specs.PageLine.{quoted, place_text, size_text, string_text, eof_text, no_nul_text, per_character_text, ill_formed_text, section_size_text, past_section_text, sentence, pane_text, pass_text, refused_text, end_text, page_text}
use Rattle.std.specs.Prelude.{Err, Ok}
use Rattle.strip_header.specs.Header.{SectionAnswer}

record Plain (l : List ℕ) : Type 0 where
  none : has_control l ≡ false

word : (l : List ℕ) → has_control l ≡ false → Plain l
word l h = record { none = h }

infixl 60 ◌and◌
◌and◌ : {a b : List ℕ} → Plain a → Plain b → Plain (a ++ b)
◌and◌ {a} {b} h k = record { none = control_append a b h.none k.none }

either : (t : Bool) {a b : List ℕ} → Plain a → Plain b → Plain (cond t a b)
either true h k = h
either false h k = k

-- ---- numbers

last_digit : (n : ℕ) → Plain ((48 + n % 10) ∷ [])
unfolding has_control
last_digit n = word _ (rw (not_control (48 + n % 10) (omega arith) (omega arith)))

empty : Plain []
unfolding has_control
empty = word [] refl

decimal_in_lem : (k n : ℕ) → Plain (decimal_in k n)
unfolding decimal_in
decimal_in_lem zero n = empty
decimal_in_lem (suc k) n = either (ltb n 10) empty (decimal_in_lem k (n / 10)) and last_digit n

decimal_plain : (n : ℕ) → Plain (decimal n)
unfolding decimal
decimal_plain n = decimal_in_lem (suc n) n

figure_plain : (n : ℕ) → Plain (figure n)
unfolding figure has_control control
figure_plain n = word (ascii " ") refl and decimal_plain n

-- ---- the parts of a line

quoted_plain : (all : Bool) (s : List ℕ) → Plain (quoted all s)
unfolding quoted has_control control
quoted_plain all s = word (ascii "\"") refl and word (escaped all s) (no_control all s) and word (ascii "\"") refl

place_plain : (place : ℕ) → Plain (place_text place)
unfolding place_text has_control control
place_plain place = word (ascii " at") refl and figure_plain place

size_plain : (place next : ℕ) → Plain (size_text place next)
unfolding size_text has_control control
size_plain place next = place_plain place and word (ascii ",") refl and figure_plain (next - place) and word (ascii " bytes") refl

letters_plain : (kind : Kind) → Plain (letter_bytes kind)
unfolding letter_bytes has_control control
letters_plain Pan1 = word _ refl
letters_plain Pic1 = word _ refl
letters_plain Txt1 = word _ refl
letters_plain Wnd1 = word _ refl
letters_plain Ali1 = word _ refl

-- ---- the sentences

string_plain : (which : ℕ) → Plain (string_text which)
unfolding string_text has_control control
string_plain which =
    either (eqb which 1) (word (ascii "pane name") refl)
    (either (eqb which 2) (word (ascii "user name") refl) (either (eqb which 3) (word (ascii "label") refl) (word (ascii "string") refl)))

eof_plain : (a b : ℕ) → Plain (eof_text a b)
unfolding eof_text has_control control
eof_plain a b = word (ascii "the bytes run out: ") refl and decimal_plain b and word (ascii " asked for at ") refl and decimal_plain a

no_nul_plain : (a : ℕ) → Plain (no_nul_text a)
unfolding no_nul_text has_control control
no_nul_plain a = word (ascii "the label at ") refl and decimal_plain a and word (ascii " meets no NUL before the end of the buffer") refl

per_character_plain : (a : ℕ) → Plain (per_character_text a)
unfolding per_character_text has_control control
per_character_plain a = word (ascii "the text box has a per-character transform at offset ") refl and decimal_plain a and word (ascii ", which is not read") refl

ill_formed_plain : (a b : ℕ) → Plain (ill_formed_text a b)
unfolding ill_formed_text has_control control
ill_formed_plain a b = word (ascii "the ") refl and string_plain b and word (ascii " at ") refl and decimal_plain a and word (ascii " is ill-formed UTF-8") refl

section_size_plain : (a b : ℕ) → Plain (section_size_text a b)
unfolding section_size_text has_control control
section_size_plain a b =
    word (ascii "the section size ") refl and decimal_plain b and word (ascii " at ") refl and decimal_plain a and word (ascii " is below 8, no multiple of 4, or passes the buffer") refl

past_section_plain : (a b : ℕ) → Plain (past_section_text a b)
unfolding past_section_text has_control control
past_section_plain a b = word (ascii "the pane looks as far as ") refl and decimal_plain a and word (ascii ", past the end of its section at ") refl and decimal_plain b

sentence_plain : (number a b : ℕ) → Plain (sentence number a b)
unfolding sentence has_control control
sentence_plain number a b =
    either (eqb number 4) (eof_plain a b)
    (either (eqb number 5) (no_nul_plain a)
    (either (eqb number 6) (per_character_plain a)
    (either (eqb number 7) (ill_formed_plain a b)
    (either (eqb number 8) (section_size_plain a b)
    (either (eqb number 19) (past_section_plain a b)
    (word (ascii "no walk over a page gives this") refl))))))

-- ---- the lines

refusal_plain : (why : Refusal) → Plain (refusal_text why)
unfolding refusal_text has_control control
refusal_plain why = word (ascii "no") refl and figure_plain (number_of why) and figure_plain (figure_a why) and figure_plain (figure_b why)

pane_plain : (kind : Kind) (name : FixedString 24) (place next : ℕ) → Plain (pane_text kind name place next)
unfolding pane_text has_control control
pane_plain kind name place next = letters_plain kind and word (ascii " ") refl and quoted_plain false _ and size_plain place next

pass_plain : (letters : List ℕ) (place next : ℕ) → Plain (pass_text letters place next)
unfolding pass_text has_control control
pass_plain letters place next = word (ascii "pass ") refl and quoted_plain true letters and size_plain place next

refused_plain : (why : Refusal) (place : ℕ) → Plain (refused_text why place)
unfolding refused_text has_control control
refused_plain why place = refusal_plain why and place_plain place and word (ascii ": ") refl and sentence_plain (number_of why) (figure_a why) (figure_b why)

end_plain : (place : ℕ) → Plain (end_text place)
unfolding end_text has_control control
end_plain place = word (ascii "end") refl and place_plain place

text_plain : (s : List ℕ) (place : ℕ) (answer : SectionAnswer) (kind : Kind) (name : FixedString 24) → Plain (page_text s place answer kind name)
unfolding page_text
text_plain s place (Ok End) kind name = end_plain place
text_plain s place (Ok (Passed next)) kind name = pass_plain _ place next
text_plain s place (Ok (Pane end next reach)) kind name = pane_plain kind name place next
text_plain s place (Err why) kind name = refused_plain why place

pub one_line : (s : List ℕ) (place : ℕ) (answer : SectionAnswer) (kind : Kind) (name : FixedString 24) → has_control (page_text s place answer kind name) ≡ false
one_line s place answer kind name = (text_plain s place answer kind name).none
