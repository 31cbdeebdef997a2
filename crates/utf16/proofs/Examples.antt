-- Worked examples, computed.
use mathlib.Core.Path.{◌≡◌, refl}
use mathlib.Core.List.{[], ◌∷◌}
use Rattle.std.specs.Prelude.{Some, None}
use Rattle.utf16.specs.Utf16.{high_surrogate, low_surrogate, scan, utf16_of}

-- U+1F600 as a pair
pair : utf16_of (0xD83D ∷ 0xDE00 ∷ []) ≡ None
unfolding utf16_of scan high_surrogate low_surrogate
pair = refl

-- a high surrogate alone
high_alone : utf16_of (0xD800 ∷ []) ≡ Some 0
unfolding utf16_of scan high_surrogate low_surrogate
high_alone = refl

-- a letter, then a low surrogate alone
low_alone : utf16_of (0x0041 ∷ 0xDC00 ∷ []) ≡ Some 1
unfolding utf16_of scan high_surrogate low_surrogate
low_alone = refl

-- a pair, then two high surrogates
high_twice : utf16_of (0xD83D ∷ 0xDE00 ∷ 0xD83D ∷ 0xD83D ∷ 0xDE00 ∷ []) ≡ Some 2
unfolding utf16_of scan high_surrogate low_surrogate
high_twice = refl
