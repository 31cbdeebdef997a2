-- A line of hexadecimal digits, taken a byte at a time.
use Rattle.std.specs.Prelude.{ℕ, ◌+◌, ◌-◌, ◌*◌, ◌/◌, ◌%◌, Bool, true, false, not, cond, ◌&&◌, ◌||◌, Option, Some, None, is_some, List, [], ◌∷◌, length, get_or, set, ltb, leb, eqb}
use Rattle.std.specs.Option.{option_map_or}
use Rattle.digits.specs.declared.Fed.{Fed}
use Rattle.digits.specs.declared.Line.{Line}

-- the value of a digit of either case; any other byte has none
unfoldable pub value_of : ℕ → Option ℕ
value_of b = cond (ltb b 48) None (cond (leb b 57) (Some (b - 48)) (cond (ltb b 65) None (cond (leb b 70) (Some (b - 65 + 10)) (cond (ltb b 97) None (cond (leb b 102) (Some (b - 97 + 10)) None)))))

unfoldable pub blank_line : Line
blank_line = record { digits = 0; bad = false }

unfoldable pub bad_line : ℕ → Line
bad_line n = record { digits = n; bad = true }

-- a byte was taken
unfoldable pub has_begun : Line → Bool
has_begun l = l.bad || not (eqb l.digits 0)

-- a value as the high half of the byte at a place, or as its low half
unfoldable pub half_put : List ℕ → ℕ → Bool → ℕ → List ℕ
half_put s at high v = cond (ltb at (length s)) (set s at (cond high (v * 16) (get_or s at 0 / 16 * 16 + v))) s

-- not hexadecimal, or overlong
unfoldable pub refused : Line → ℕ → Bool
refused l b = cond (is_some (value_of b)) (leb 8192 l.digits) true

unfoldable pub line_after : Line → ℕ → Line
line_after l b = cond (refused l b) (bad_line l.digits) (record { digits = l.digits + 1; bad = l.bad })

unfoldable pub bytes_after : List ℕ → Line → ℕ → List ℕ
bytes_after s l b = cond (refused l b) s (option_map_or (λ v. half_put s (l.digits / 2) (eqb (l.digits % 2) 0) v) (value_of b) s)

-- an even count of digits, none of them bad, whose bytes have room
unfoldable pub even_line : Line → ℕ → Bool
even_line l room = cond l.bad false (eqb (l.digits % 2) 0 && leb (l.digits / 2) room)

-- ---- many bytes

-- the bytes before the first line feed
unfoldable pub before_feed : List ℕ → List ℕ
before_feed [] = []
before_feed (b ∷ t) = cond (eqb b 10) [] (b ∷ before_feed t)

-- the line after the bytes of a text, and the bytes that it spells
unfoldable pub line_after_all : Line → List ℕ → Line
line_after_all l [] = l
line_after_all l (b ∷ t) = line_after_all (line_after l b) t

unfoldable pub bytes_after_all : List ℕ → Line → List ℕ → List ℕ
bytes_after_all s l [] = s
bytes_after_all s l (b ∷ t) = bytes_after_all (bytes_after s l b) (line_after l b) t

-- the place of the first line feed, if there is one
unfoldable pub feed_place : List ℕ → Option ℕ
feed_place text = cond (ltb (length (before_feed text)) (length text)) (Some (length (before_feed text))) None

-- the bytes up to a line feed: the line after them, and the place of the line feed, if there is one
unfoldable pub fed : List ℕ → Line → Fed
fed text l = record { line = line_after_all l (before_feed text); feed = feed_place text }
