-- Well-formed UTF-8: as the Unicode Standard defines it, then as a computed test, which the contracts cite.
-- That the two agree is proved: `standard`, of proofs/Standard.antt.
use Rattle.std.specs.Prelude.{ℕ, zero, suc, ◌<◌, ◌≤◌, ◌≡◌, Bool, true, false, cond, ◌&&◌, ◌||◌, Option, Some, None, find, option_and_then, length, get_or, drop, leb, ltb, eqb}
use Rattle.std.specs.Option.{option_map_or}
use mathlib.Core.List.{List, [], ◌∷◌, ◌++◌, Memᴰ}
use Rattle.utf8.specs.declared.Row.{Row}

-- ---- the Standard

-- a row of one, two, three or four places; the third and the fourth byte are always 80..BF
abbrev pub row1 : ℕ → ℕ → Row
row1 a b = record { count = 1; low = a ∷ 0 ∷ 0 ∷ 0 ∷ []; high = b ∷ 0 ∷ 0 ∷ 0 ∷ [] }

abbrev pub row2 : ℕ → ℕ → ℕ → ℕ → Row
row2 a b c d = record { count = 2; low = a ∷ c ∷ 0 ∷ 0 ∷ []; high = b ∷ d ∷ 0 ∷ 0 ∷ [] }

abbrev pub row3 : ℕ → ℕ → ℕ → ℕ → Row
row3 a b c d = record { count = 3; low = a ∷ c ∷ 0x80 ∷ 0 ∷ []; high = b ∷ d ∷ 0xBF ∷ 0 ∷ [] }

abbrev pub row4 : ℕ → ℕ → ℕ → ℕ → Row
row4 a b c d = record { count = 4; low = a ∷ c ∷ 0x80 ∷ 0x80 ∷ []; high = b ∷ d ∷ 0xBF ∷ 0xBF ∷ [] }

-- Table 3-7, Well-Formed UTF-8 Byte Sequences: the bounds of the first byte, then of the second
unfoldable pub table : List Row
table =
    row1 0x00 0x7F
    ∷ row2 0xC2 0xDF 0x80 0xBF
    ∷ row3 0xE0 0xE0 0xA0 0xBF
    ∷ row3 0xE1 0xEC 0x80 0xBF
    ∷ row3 0xED 0xED 0x80 0x9F
    ∷ row3 0xEE 0xEF 0x80 0xBF
    ∷ row4 0xF0 0xF0 0x90 0xBF
    ∷ row4 0xF1 0xF3 0x80 0xBF
    ∷ row4 0xF4 0xF4 0x80 0x8F
    ∷ []

-- the bytes q are those of a row of the table: as many as it has places, each within the bounds of its place
pub record Sequence (q : List ℕ) : Type 0 where
  pub row : Row
  pub listed : Memᴰ row table
  pub long : length q ≡ row.count
  pub within : (j : ℕ) → j < length q → (get_or row.low j 0 ≤ get_or q j 0) × (get_or q j 0 ≤ get_or row.high j 0)

-- D92: well-formed are sequences of the table, one after the other
pub data WellFormed : List ℕ → Type 0 where
  none : WellFormed []
  more : {q rest : List ℕ} → Sequence q → WellFormed rest → WellFormed (q ++ rest)

-- ---- the computed test

-- whether place j of the row takes the byte b
unfoldable pub takes : Row → ℕ → ℕ → Bool
takes row j b = leb (get_or row.low j 0) b && leb b (get_or row.high j 0)

-- the first row whose first place takes b
unfoldable pub row_of : List Row → ℕ → Option Row
row_of rs b = find (λ r. takes r 0 b) rs

-- whether the first n places of the row take the first n bytes of l
unfoldable pub fits : Row → List ℕ → ℕ → Bool
fits row l zero = true
fits row l (suc j) = fits row l j && takes row j (get_or l j 0)

-- how many bytes of the start of l are the sequence of the row, if they are one
unfoldable pub sequence_by : Row → List ℕ → Option ℕ
sequence_by row l = cond (leb row.count (length l) && fits row l row.count) (Some row.count) None

-- how many bytes the sequence at the start of l has, if there is one
unfoldable pub sequence : List ℕ → Option ℕ
sequence l = option_and_then (λ row. sequence_by row l) (row_of table (get_or l 0 0))

-- the whole list, by at most f sequences
unfoldable pub walk : ℕ → List ℕ → Bool
walk zero l = eqb (length l) 0
walk (suc f) l = eqb (length l) 0 || option_map_or (λ n. walk f (drop n l)) (sequence l) false

-- the test: as many sequences as there are bytes are enough
unfoldable pub well_formed : List ℕ → Bool
well_formed l = walk (length l) l

-- how many ASCII bytes l starts with
unfoldable pub ascii_run : List ℕ → ℕ
ascii_run [] = 0
ascii_run (b ∷ l) = cond (ltb b 0x80) (suc (ascii_run l)) 0

-- whether every byte is ASCII
unfoldable pub is_ascii : List ℕ → Bool
is_ascii [] = true
is_ascii (b ∷ l) = ltb b 0x80 && is_ascii l
