-- Worked examples, computed.
use mathlib.Core.Path.{◌≡◌, refl}
use mathlib.Core.List.{[], ◌∷◌}
use mathlib.Core.Bool.{true, false}
use Rattle.utf8.specs.Utf8.{table, takes, row_of, fits, sequence_by, sequence, walk, well_formed}

-- an overlong form of U+0000
overlong : well_formed (0xC0 ∷ 0x80 ∷ []) ≡ false
unfolding well_formed walk sequence sequence_by fits row_of takes table
overlong = refl

-- the surrogate D800 as bytes
surrogate : well_formed (0xED ∷ 0xA0 ∷ 0x80 ∷ []) ≡ false
unfolding well_formed walk sequence sequence_by fits row_of takes table
surrogate = refl

-- 110000, past the last code point
too_large : well_formed (0xF4 ∷ 0x90 ∷ 0x80 ∷ 0x80 ∷ []) ≡ false
unfolding well_formed walk sequence sequence_by fits row_of takes table
too_large = refl

-- an ASCII letter, U+20AC and U+10FFFF
good : well_formed (0x41 ∷ 0xE2 ∷ 0x82 ∷ 0xAC ∷ 0xF4 ∷ 0x8F ∷ 0xBF ∷ 0xBF ∷ []) ≡ true
unfolding well_formed walk sequence sequence_by fits row_of takes table
good = refl

-- U+20AC without its last byte
cut : well_formed (0xE2 ∷ 0x82 ∷ []) ≡ false
unfolding well_formed walk sequence sequence_by fits row_of takes table
cut = refl
