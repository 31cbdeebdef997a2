-- Lines as they are printed.
use mathlib.Core.Path.{◌≡◌, refl, sym}
use native.Mathlib.Omega.{arith}
use mathlib.Core.List.{[], ◌∷◌}
use Rattle.core_read.specs.declared.error.Refusal.TheVariants.{UnexpectedEof}
use Rattle.strip_header.specs.declared.Section.TheVariants.{End, Passed, Pane}
use Rattle.escapes.specs.Escaped.{hex_digit}
use Rattle.lines.specs.Answers.{ascii, figure, refusal_text, section_text, section_line}
use Rattle.lines.specs.Decimal.{decimal_in, decimal}
use Rattle.lines.specs.Hexadecimal.{hexadecimal}
use Rattle.lines.proofs.Decimals.{fewest_decimal}
use Rattle.std.specs.Prelude.{Err, Ok}

nought : decimal 0 ≡ ascii "0"
unfolding decimal decimal_in
nought = refl

ended : section_line (Ok End) ≡ ascii "end\n"
unfolding section_line section_text
ended = refl

passed : section_line (Ok (Passed 100)) ≡ ascii "pass 100\n"
unfolding section_line section_text figure decimal decimal_in
passed = refl

pane : section_line (Ok (Pane 84 96 168)) ≡ ascii "pane 84 96\n"
unfolding section_line section_text figure decimal decimal_in
pane = refl

cut : section_line (Err (UnexpectedEof 8 1)) ≡ ascii "no 4 8 1\n"
unfolding section_line section_text refusal_text figure decimal decimal_in
cut = refl

most : decimal 18446744073709551615 ≡ ascii "18446744073709551615"
most = sym (fewest_decimal 18446744073709551615 20 (omega arith, omega arith, λ _. omega arith))

bytes : hexadecimal (0 ∷ 9 ∷ 160 ∷ 255 ∷ []) ≡ ascii "0009A0FF"
unfolding hexadecimal hex_digit
bytes = refl
