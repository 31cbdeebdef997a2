-- Names that would forge a line, as they are shown.
use mathlib.Core.Path.{◌≡◌, refl}
use mathlib.Core.Bool.{true, false}
use mathlib.Core.List.{[], ◌∷◌}
use Rattle.escapes.specs.Escaped.{control, hidden_width, hidden, hex_digit, written_out, shown, escaped_up_to, escaped}

-- x" and a line feed: x\"\x0A
quote_and_line : escaped false (0x78 ∷ 0x22 ∷ 0x0A ∷ []) ≡ 0x78 ∷ 0x5C ∷ 0x22 ∷ 0x5C ∷ 0x78 ∷ 0x30 ∷ 0x41 ∷ []
unfolding escaped escaped_up_to shown hidden hidden_width control written_out hex_digit
quote_and_line = refl

-- é is shown as it is, but not among letters that may be any bytes: \xC3\xA9
letter : escaped false (0xC3 ∷ 0xA9 ∷ []) ≡ 0xC3 ∷ 0xA9 ∷ []
unfolding escaped escaped_up_to shown hidden hidden_width control
letter = refl

letter_ascii : escaped true (0xC3 ∷ 0xA9 ∷ []) ≡ 0x5C ∷ 0x78 ∷ 0x43 ∷ 0x33 ∷ 0x5C ∷ 0x78 ∷ 0x41 ∷ 0x39 ∷ []
unfolding escaped escaped_up_to shown control written_out hex_digit
letter_ascii = refl

-- U+0085, the next line, is written out: \xC2\x85
next_line : escaped false (0xC2 ∷ 0x85 ∷ []) ≡ 0x5C ∷ 0x78 ∷ 0x43 ∷ 0x32 ∷ 0x5C ∷ 0x78 ∷ 0x38 ∷ 0x35 ∷ []
unfolding escaped escaped_up_to shown hidden hidden_width control written_out hex_digit
next_line = refl

-- and so is U+2028, the line separator: \xE2\x80\xA8
line_separator : escaped false (0xE2 ∷ 0x80 ∷ 0xA8 ∷ []) ≡ 0x5C ∷ 0x78 ∷ 0x45 ∷ 0x32 ∷ 0x5C ∷ 0x78 ∷ 0x38 ∷ 0x30 ∷ 0x5C ∷ 0x78 ∷ 0x41 ∷ 0x38 ∷ []
unfolding escaped escaped_up_to shown hidden hidden_width control written_out hex_digit
line_separator = refl
