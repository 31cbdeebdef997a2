-- One law for every packed number: its digits come back from their bits, and it fits in the bits of all of them.
use mathlib.Core.Path.{◌≡◌, refl, ap, ◌∙◌}
use Prim.Native.Nat.{ℕ, zero, suc, ◌+◌, ◌*◌, ◌/◌, ◌%◌, ◌^◌, ◌<◌, ◌≤◌}
use native.Mathlib.Nat.{div-one}
use native.Mathlib.Omega.{arith}
use mathlib.Core.Bool.{Bool, true, false}
use mathlib.Core.List.{List, [], ◌∷◌, ◌++◌, map, reverse}
use mir.Val.{bool_byte}
use lib.ListN.{length, get_or}
use Rattle.std.proofs.Math.Pow.{pow_mono}
use Rattle.std.proofs.lemmas.List.{map-append, reverse-append, length-map, length-reverse}
use denote.Ref.{Bor}
use lib.Arith.{digits_lt}
use lib.Pow.{pow-add, shr-shr, low, high}
use Rattle.flags.specs.Packed.{flag_of, flag_number, Digit, digit, flag, pack}

-- each digit is below 2 to its width
abbrev pub Fit : List Digit → Type 0
Fit [] = Unit
Fit (d ∷ ds) = (d.value < 2 ^ d.width) × Fit ds

-- how many bits the digits take
abbrev pub size : List Digit → ℕ
size [] = 0
size (d ∷ ds) = size ds + d.width

-- the first bit of digit k
abbrev pub start : List Digit → ℕ → ℕ
start [] k = 0
start (d ∷ ds) zero = 0
start (d ∷ ds) (suc k) = d.width + start ds k

-- digit k; past the end, one of no bits
abbrev pub nth : List Digit → ℕ → Digit
nth ds k = get_or ds k (digit 0 0)

-- the number in the bits of digit k
abbrev pub unpack : List Digit → ℕ → ℕ → ℕ
unpack ds k raw = raw / 2 ^ start ds k % 2 ^ (nth ds k).width

pub pack_fit : (ds : List Digit) → Fit ds → pack ds < 2 ^ size ds
unfolding pack
pack_fit [] f = omega arith
pack_fit (d ∷ ds) f = rw (pow-add 2 (size ds) d.width) (digits_lt (pack_fit ds f.1) f.0)

pub pack_back : (ds : List Digit) → Fit ds → (k : ℕ) → unpack ds k (pack ds) ≡ (nth ds k).value
unfolding pack
pack_back [] f k = refl
pack_back (d ∷ ds) f zero = rw (div-one (pack ds * 2 ^ d.width + d.value)) (low (pack ds) d.width f.0)
pack_back (d ∷ ds) f (suc k) =
    rw (← shr-shr (pack ds * 2 ^ d.width + d.value) d.width (start ds k), high (pack ds) d.width f.0) (pack_back ds f.1 k)

-- a field that is read from its digit is what was written there, where reading its number gives it back
pub field_back : {A : Type 0} (of : ℕ → A) (ds : List Digit) → Fit ds → (k : ℕ) {a : A} → of (nth ds k).value ≡ a → of (unpack ds k (pack ds)) ≡ a
field_back of ds f k e = ap of (pack_back ds f k) ∙ e

pub flag_back : (b : Bool) → flag_of (flag_number b) ≡ b
flag_back true = refl
flag_back false = refl

-- what the language makes of a bool is its flag's number
pub flag_from : (b : Bool) → bool_byte b ≡ flag_number b
flag_from true = refl
flag_from false = refl

pub byte_le : (b : Bool) → bool_byte b ≤ 1
byte_le true = omega arith
byte_le false = omega arith

pub flag_fit : (b : Bool) → flag_number b < 2 ^ 1
flag_fit true = omega arith
flag_fit false = omega arith

pub flags_fit : (bs : List Bool) → Fit (map flag bs)
flags_fit [] = tt
flags_fit (b ∷ bs) = (flag_fit b, flags_fit bs)

flag_value : (bs : List Bool) (k : ℕ) → flag_of (nth (map flag bs) k).value ≡ get_or bs k false
flag_value [] k = refl
flag_value (b ∷ bs) zero = flag_back b
flag_value (b ∷ bs) (suc k) = flag_value bs k

-- each flag of a number of flags comes back
pub flags_back : (bs : List Bool) (k : ℕ) → flag_of (unpack (map flag bs) k (pack (map flag bs))) ≡ get_or bs k false
flags_back bs k = field_back flag_of (map flag bs) (flags_fit bs) k (flag_value bs k)

size_flags : (bs : List Bool) → size (map flag bs) ≡ length bs
size_flags [] = refl
size_flags (b ∷ bs) = omega (arith, size_flags bs)

-- k flags fit in k bits
pub flags_below : (bs : List Bool) (k : ℕ) → length bs ≤ k → pack (map flag bs) < 2 ^ k
flags_below bs k h =
    let e = size_flags bs in
    omega (arith, pack_fit (map flag bs) (flags_fit bs), pow_mono {i = size (map flag bs)} {j = k} (omega arith))

-- ---- flags put together from the last on

-- the flags of a row that was taken from its end
abbrev pub flags_taken : List (Bor Bool) → List Bool
flags_taken ys = reverse (map (λ (b : Bor Bool). b.now) ys)

pub taken_below : (ys : List (Bor Bool)) → length ys < 16 → pack (map flag (flags_taken ys)) < 2 ^ 15
taken_below ys h =
    flags_below (flags_taken ys) 15 (omega (arith, length-reverse (map (λ (b : Bor Bool). b.now) ys), length-map ys (λ (b : Bor Bool). b.now)))

pub taken_more : (ys : List (Bor Bool)) (b : Bor Bool) → pack (map flag (flags_taken (ys ++ b ∷ []))) ≡ 2 * pack (map flag (flags_taken ys)) + bool_byte b.now
unfolding pack
taken_more ys b =
    rw (map-append (λ (b : Bor Bool). b.now) ys (b ∷ []), reverse-append (map (λ (b : Bor Bool). b.now) ys) (b.now ∷ []))
    (omega (arith, flag_from b.now))
