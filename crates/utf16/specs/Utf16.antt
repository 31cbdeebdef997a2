-- Well-formed UTF-16: as the Unicode Standard defines it, then as a computed answer, which the contract cites.
-- That the two agree is proved: `standard16` and `unpaired16`, of proofs/Standard16.antt.
use Rattle.std.specs.Prelude.{ℕ, suc, ◌+◌, ◌-◌, ◌<◌, ◌≤◌, ◌⊎◌, List, [], ◌∷◌, Bool, true, false, not, cond, ◌&&◌, Option, Some, None, length, get_or, take, leb}

-- ---- the Standard

-- D72: a high-surrogate code unit is D800..DBFF
abbrev pub HighSurrogate : ℕ → Type 0
HighSurrogate u = (0xD800 ≤ u) × (u ≤ 0xDBFF)

-- D74: a low-surrogate code unit is DC00..DFFF
abbrev pub LowSurrogate : ℕ → Type 0
LowSurrogate u = (0xDC00 ≤ u) × (u ≤ 0xDFFF)

-- any other unit
abbrev pub NoSurrogate : ℕ → Type 0
NoSurrogate u = (u < 0xD800) ⊎ (0xDFFF < u)

-- D91: a unit that is no surrogate, or a high surrogate and a low one, one after the other
pub data WellFormed16 : List ℕ → Type 0 where
  none : WellFormed16 []
  single : {u : ℕ} {l : List ℕ} → NoSurrogate u → WellFormed16 l → WellFormed16 (u ∷ l)
  pair : {h u : ℕ} {l : List ℕ} → HighSurrogate h → LowSurrogate u → WellFormed16 l → WellFormed16 (h ∷ u ∷ l)

-- the first unpaired surrogate of l has so many units before it: these are well-formed, and it is a low surrogate,
-- or a high one that no low one follows (past the end of l stands 0, which is none)
pub record FirstUnpaired (l : List ℕ) (before : ℕ) : Type 0 where
  pub within : before < length l
  pub good : WellFormed16 (take before l)
  pub lone : LowSurrogate (get_or l before 0) ⊎ (HighSurrogate (get_or l before 0) × (LowSurrogate (get_or l (suc before) 0) → ⊥))

-- ---- the computed answer

-- whether u is a high surrogate, and whether a low one
unfoldable pub high_surrogate : ℕ → Bool
high_surrogate u = leb 0xD800 u && leb u 0xDBFF

unfoldable pub low_surrogate : ℕ → Bool
low_surrogate u = leb 0xDC00 u && leb u 0xDFFF

-- a unit where none such may stand: a low surrogate after no high one, or another after a high one, which waits for it (true)
abbrev pub breaks : Bool → ℕ → Bool
breaks true u = not (low_surrogate u)
breaks false u = low_surrogate u

-- how many units stand before the first unpaired surrogate, if there is one: of the units l after i others, where the last of these is a high surrogate that waits for its pair (true), or not
unfoldable pub scan : Bool → ℕ → List ℕ → Option ℕ
scan false i [] = None
scan true i [] = Some (i - 1)
scan false i (u ∷ l) = cond (low_surrogate u) (Some i) (scan (high_surrogate u) (i + 1) l)
scan true i (u ∷ l) = cond (low_surrogate u) (scan false (i + 1) l) (Some (i - 1))

-- the answer for the whole list
unfoldable pub utf16_of : List ℕ → Option ℕ
utf16_of l = scan false 0 l

-- the answer as a Bool
abbrev pub is_well_formed : Option ℕ → Bool
is_well_formed None = true
is_well_formed (Some n) = false

abbrev pub well_formed16 : List ℕ → Bool
well_formed16 l = is_well_formed (utf16_of l)
