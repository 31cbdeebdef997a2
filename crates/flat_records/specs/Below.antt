-- The first word of a record that is not below its bound.
use Rattle.std.specs.Prelude.{ℕ, zero, suc, ◌+◌, Bool, true, ◌&&◌, cond, List, [], ◌∷◌, get_or, ltb, leb, Result, Ok, Err}
use Rattle.strip_records.specs.declared.kind.Kind.{Kind}
use Rattle.strip_records.specs.declared.kind.Kind.TheVariants.{Pan1, Pic1, Txt1, Wnd1, Ali1}
use Rattle.flat_records.specs.Records.{kind_of}
use Rattle.flat.specs.declared.words.BadWord.{BadWord}

-- what a test tells: all words are below their bounds, or the first that is not
abbrev pub Checked : Type 0
Checked = Result (Unit {0}) BadWord

abbrev pub good : Checked
good = Ok tt

abbrev pub bad : ℕ → Checked
bad i = Err (record { index = i })

-- the first of n words from i on that is not below the bound
unfoldable pub scanned : List ℕ → ℕ → ℕ → ℕ → Checked
scanned w i zero bound = good
scanned w i (suc n) bound = cond (ltb (get_or w i 0) bound) (scanned w (i + 1) n bound) (bad i)

-- the same, unless a word before them is bad
unfoldable pub or_scanned : Checked → List ℕ → ℕ → ℕ → ℕ → Checked
or_scanned (Ok u) w i n bound = scanned w i n bound
or_scanned (Err b) w i n bound = Err b

-- from a place on so many words, and what they stay below
abbrev pub Bound : Type 0
Bound = ℕ × ℕ × ℕ

abbrev pub span : ℕ → ℕ → ℕ → Bound
span from count bound = (from, count, bound)

abbrev pub checked_by : Checked → List Bound → List ℕ → Checked
checked_by c [] w = c
checked_by c ((from, count, bound) ∷ bs) w = checked_by (or_scanned c w from count bound) bs w

-- bounds of words that a record has
abbrev pub all_within : List Bound → Bool
all_within [] = true
all_within ((from, count, bound) ∷ bs) = leb (from + count) 116 && all_within bs

-- ---- the bounds of layout.rt. A word that is not named here may be any number: how long a name is, which a write refuses by 9;
-- and what a write does not read, the counts of quads, lines and frames, the label's place and the label's length

-- kind, pane flags, position, alpha, flag_ex, reserve0, name, user name, the floats
abbrev pub base_bounds : List Bound
base_bounds =
    span 0 1 5
    ∷ span 1 8 2
    ∷ span 9 4 3
    ∷ span 13 1 256
    ∷ span 14 3 2
    ∷ span 17 1 256
    ∷ span 19 24 256
    ∷ span 44 8 256
    ∷ span 52 10 4294967296
    ∷ []

-- colours, material, shape present, shape index
abbrev pub picture_bounds : List Bound
picture_bounds = span 62 16 256 ∷ span 78 1 65536 ∷ span 80 1 2 ∷ span 81 1 4294967296 ∷ []

-- sizes and indices, origin, alignment, flags and measure kind, measure and tilt, font colours
abbrev pub font_bounds : List Bound
font_bounds = span 62 4 65536 ∷ span 66 2 3 ∷ span 68 1 4 ∷ span 69 15 2 ∷ span 84 3 4294967296 ∷ span 87 8 256 ∷ []

-- spaces and shadow, its colours, its tilt, text and label present, lines present
abbrev pub shadow_bounds : List Bound
shadow_bounds = span 95 6 4294967296 ∷ span 101 8 256 ∷ span 109 1 4294967296 ∷ span 110 2 2 ∷ span 114 1 2 ∷ []

-- sides, flags, kind, not-draw, colours, material
abbrev pub window_bounds : List Bound
window_bounds = span 62 8 65536 ∷ span 70 2 2 ∷ span 72 1 3 ∷ span 73 1 2 ∷ span 75 16 256 ∷ span 91 1 65536 ∷ []

-- direction and margin, the two flags
abbrev pub alignment_bounds : List Bound
alignment_bounds = span 62 2 4294967296 ∷ span 64 2 2 ∷ []

abbrev pub own_checked : Kind → Checked → List ℕ → Checked
own_checked Pan1 c w = c
own_checked Pic1 c w = checked_by c picture_bounds w
own_checked Txt1 c w = checked_by (checked_by c font_bounds w) shadow_bounds w
own_checked Wnd1 c w = checked_by c window_bounds w
own_checked Ali1 c w = checked_by c alignment_bounds w

-- THE BOUNDS OF A RECORD: the base's, then those of its kind
unfoldable pub words_checked : List ℕ → Checked
words_checked w = own_checked (kind_of (get_or w 0 0)) (checked_by good base_bounds w) w
