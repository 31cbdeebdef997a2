-- What the programs print of an answer, as bytes.
use Rattle.std.specs.Prelude.{ℕ, List, [], ◌∷◌, ◌++◌, Err, Ok}
use Prim.Native.Char.{code}
use Prim.Native.String as Text
use Rattle.core_read.specs.Refusals.{number_of, figure_a, figure_b}
use Rattle.core_read.specs.declared.error.Refusal.{Refusal}
use Rattle.strip_header.specs.declared.Section.TheVariants.{End, Passed, Pane}
use Rattle.lines.specs.Decimal.{decimal}
use Rattle.strip_header.specs.Header.{SectionAnswer}

-- the bytes of a text of ASCII
abbrev pub ascii : Text.String → List ℕ
ascii Text.[] = []
ascii (Text.◌∷◌ c s) = code c ∷ ascii s

-- a number after a space
unfoldable pub figure : ℕ → List ℕ
figure n = ascii " " ++ decimal n

-- no NUMBER a b
unfoldable pub refusal_text : Refusal → List ℕ
refusal_text why = ascii "no" ++ figure (number_of why) ++ figure (figure_a why) ++ figure (figure_b why)

-- end; pass N; pane R N; or a refusal
unfoldable pub section_text : SectionAnswer → List ℕ
section_text (Ok End) = ascii "end"
section_text (Ok (Passed next)) = ascii "pass" ++ figure next
section_text (Ok (Pane end next reach)) = ascii "pane" ++ figure end ++ figure next
section_text (Err why) = refusal_text why

-- the same as a line
unfoldable pub section_line : SectionAnswer → List ℕ
section_line answer = section_text answer ++ ascii "\n"

-- the line of one that spells no bytes
unfoldable pub bad_text : List ℕ
bad_text = ascii "bad\n"
