-- Bytes shown between quotes on a line of text: what could be taken for the end of the quotes or of the line is written out.
use Rattle.std.specs.Prelude.{ℕ, zero, suc, ◌+◌, ◌-◌, ◌/◌, ◌%◌, Bool, false, cond, not, ◌&&◌, ◌||◌, List, [], ◌∷◌, ◌++◌, length, get_or, drop, ltb, leb, eqb}

-- ---- which bytes are written out

-- a control character of ASCII
unfoldable pub control : ℕ → Bool
control b = ltb b 0x20 || eqb b 0x7F

-- of well-formed UTF-8: how many bytes the first character of l has where it is a control character beyond ASCII (U+0080 to U+009F) or ends a line (U+2028, U+2029); 0 for any other
unfoldable pub hidden_width : List ℕ → ℕ
hidden_width l =
    cond (eqb (get_or l 0 0) 0xC2 && ltb (get_or l 1 0) 0xA0) 2
    (cond (eqb (get_or l 0 0) 0xE2 && (eqb (get_or l 1 0) 0x80 && (eqb (get_or l 2 0) 0xA8 || eqb (get_or l 2 0) 0xA9))) 3 0)

-- whether byte i of s is in such a character: in one that begins at i, or 1 or 2 bytes before
unfoldable pub hidden : List ℕ → ℕ → Bool
hidden s i = ltb 0 (hidden_width (drop i s)) || (ltb 1 (hidden_width (drop (i - 1) s)) || ltb 2 (hidden_width (drop (i - 2) s)))

-- ---- how they are written

unfoldable pub hex_digit : ℕ → ℕ
hex_digit d = cond (ltb d 10) (48 + d) (55 + d)

-- the two digits of a byte, the high half first
abbrev pub hex_digits : ℕ → List ℕ
hex_digits b = hex_digit (b / 16 % 16) ∷ hex_digit (b % 16) ∷ []

-- \xHH
unfoldable pub written_out : ℕ → List ℕ
written_out b = 0x5C ∷ 0x78 ∷ hex_digits b

-- a byte as it is shown: written out, with a backslash before it (a quote, a backslash), or as it is
unfoldable pub shown : Bool → ℕ → List ℕ
shown out b = cond (out || control b) (written_out b) (cond (eqb b 0x22 || eqb b 0x5C) (0x5C ∷ b ∷ []) (b ∷ []))

-- the first i bytes of s as they are shown; with ascii every byte of 80 and above is written out, else those of hidden characters
unfoldable pub escaped_up_to : Bool → List ℕ → ℕ → List ℕ
escaped_up_to ascii s zero = []
escaped_up_to ascii s (suc i) = escaped_up_to ascii s i ++ shown (cond ascii (leb 0x80 (get_or s i 0)) (hidden s i)) (get_or s i 0)

unfoldable pub escaped : Bool → List ℕ → List ℕ
escaped ascii s = escaped_up_to ascii s (length s)

-- ---- what a reader of the line sees

-- whether some byte is a control character of ASCII, such as a line feed
unfoldable pub has_control : List ℕ → Bool
has_control [] = false
has_control (b ∷ l) = control b || has_control l

-- how many bytes stand before the first quote that has no backslash before it; a backslash takes the next byte with it (taken)
unfoldable pub before_quote : Bool → List ℕ → ℕ
before_quote taken [] = 0
before_quote taken (b ∷ l) = cond (not taken && eqb b 0x22) 0 (1 + before_quote (not taken && eqb b 0x5C) l)
