-- Each kind has its letters and its fixed length.
use Rattle.std.specs.Prelude.{ℕ, cond, List, [], ◌∷◌, eqb, None, Some, Option}
use Rattle.strip_records.specs.declared.kind.Kind.{Kind}
use Rattle.strip_records.specs.declared.kind.Kind.TheVariants.{Pan1, Pic1, Txt1, Wnd1, Ali1}

-- the letters as bytes, and as the number that they spell, the lowest byte first
unfoldable pub letter_bytes : Kind → List ℕ
letter_bytes Pan1 = 0x70 ∷ 0x61 ∷ 0x6E ∷ 0x31 ∷ []
letter_bytes Pic1 = 0x70 ∷ 0x69 ∷ 0x63 ∷ 0x31 ∷ []
letter_bytes Txt1 = 0x74 ∷ 0x78 ∷ 0x74 ∷ 0x31 ∷ []
letter_bytes Wnd1 = 0x77 ∷ 0x6E ∷ 0x64 ∷ 0x31 ∷ []
letter_bytes Ali1 = 0x61 ∷ 0x6C ∷ 0x69 ∷ 0x31 ∷ []

abbrev pub letters_of : Kind → ℕ
letters_of Pan1 = 0x316E6170
letters_of Pic1 = 0x31636970
letters_of Txt1 = 0x31747874
letters_of Wnd1 = 0x31646E77
letters_of Ali1 = 0x31696C61

-- pan1 76, pic1 96, txt1 160, wnd1 104, ali1 88
abbrev pub length_of : Kind → ℕ
length_of Pan1 = 76
length_of Pic1 = 96
length_of Txt1 = 160
length_of Wnd1 = 104
length_of Ali1 = 88

-- a kind, if there is one
abbrev pub KindFound : Type 0
KindFound = Option Kind

-- the kind that has these letters
unfoldable pub kind_of : ℕ → KindFound
kind_of n =
    cond (eqb n (letters_of Pan1)) (Some Pan1)
    (cond (eqb n (letters_of Pic1)) (Some Pic1)
    (cond (eqb n (letters_of Txt1)) (Some Txt1)
    (cond (eqb n (letters_of Wnd1)) (Some Wnd1)
    (cond (eqb n (letters_of Ali1)) (Some Ali1)
    None))))
