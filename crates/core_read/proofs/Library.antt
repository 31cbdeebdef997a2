-- The library's words for the bytes of a number, at every width, and for the bits of a signed number, are those of specs/Bytes.antt.
use lib.ListN.{set}
use mir.Val.{sel, SFits}
use mir.Facts.{to_z-of_z, sfits_to_z}
use Rattle.std.proofs.Common.{◌≡◌, ℕ, zero, suc, ◌+◌, ◌-◌, ◌*◌, ◌/◌, ◌%◌, ◌^◌, ◌<◌, ◌≤◌, List, [], ◌∷◌, ◌++◌, length, get_or, slice_index, ℤ, pos, negsuc, refl, sym, ap, ◌∙◌, arith, reverse, Bool, true, false, cond, ltb, add_assoc}
use Rattle.std.proofs.Math.Nat.{div-div-eq-div-mul, div-one, mul_left_comm, pow-suc, pow-succ'}
use Rattle.std.proofs.lemmas.List.{length-reverse, reverse-append, get_or-reverse}
use Rattle.std.specs.Int.{Width, w8, w16, w32, w64, w128, byte_len, byte_at, byte_worth, bytes_low_first, bytes_high_first, sum_through, to_le_bytes, to_be_bytes, from_le_bytes, from_be_bytes, cast_signed, cast_unsigned}
use Rattle.core_read.specs.Bytes.{little, le, spelled, bytes_of, signed_of, bits_of}
use Rattle.core_read.specs.declared.cursor.ByteOrder.{ByteOrder}
use Rattle.core_read.specs.declared.cursor.ByteOrder.TheVariants.{Little, Big}

-- ---- a number as bytes

byte_is : (i n : ℕ) → byte_at i n ≡ n / 256 ^ i % 256
byte_is zero n = ap (λ (x : ℕ). x % 256) (sym (div-one n))
byte_is (suc i) n = refl

low_first : (i k n : ℕ) → bytes_low_first i k n ≡ le k (n / 256 ^ i)
unfolding le
low_first i zero n = refl
low_first i (suc k) n =
    let e : n / 256 ^ suc i ≡ n / 256 ^ i / 256 = ap (λ (p : ℕ). n / p) (pow-suc 256 i) ∙ sym (div-div-eq-div-mul n (256 ^ i) 256) in
    rw (byte_is i n, low_first (suc i) k n, e)

-- its highest byte is the last
le_last : (k n : ℕ) → le (suc k) n ≡ le k n ++ (byte_at k n ∷ [])
unfolding le
le_last zero n = refl
le_last (suc k) n =
    let e : n / 256 / 256 ^ k ≡ n / 256 ^ suc k = div-div-eq-div-mul n 256 (256 ^ k) ∙ ap (λ (p : ℕ). n / p) (sym (pow-succ' 256 k)) in
    ap (λ (l : List ℕ). n % 256 ∷ l) (le_last k (n / 256) ∙ ap (λ (b : ℕ). le k (n / 256) ++ (b ∷ [])) (byte_is k (n / 256) ∙ ap (λ (x : ℕ). x % 256) e))

high_first : (k n : ℕ) → bytes_high_first k n ≡ reverse (le k n)
unfolding le
high_first zero n = refl
high_first (suc k) n =
    ap (λ (l : List ℕ). byte_at k n ∷ l) (high_first k n)
    ∙ sym (ap reverse (le_last k n) ∙ reverse-append (le k n) (byte_at k n ∷ []))

pub bytes_little : (w : Width) (n : ℕ) → to_le_bytes w n ≡ bytes_of Little (byte_len w) n
unfolding bytes_of
bytes_little w n = low_first 0 (byte_len w) n ∙ ap (le (byte_len w)) (div-one n)

pub bytes_big : (w : Width) (n : ℕ) → to_be_bytes w n ≡ bytes_of Big (byte_len w) n
unfolding bytes_of
bytes_big w n = high_first (byte_len w) n

-- ---- bytes as a number

worth_more : (i b : ℕ) → byte_worth (suc i) b ≡ 256 * byte_worth i b
worth_more zero b = omega arith
worth_more (suc i) b = ap (λ (p : ℕ). b * p) (pow-succ' 256 (suc i)) ∙ mul_left_comm b 256 (256 ^ suc i)

sum_same : (f g : ℕ → ℕ) (k : ℕ) → ((i : ℕ) → i ≤ k → f i ≡ g i) → sum_through f k ≡ sum_through g k
sum_same f g zero h = h 0 (omega arith)
sum_same f g (suc k) h =
    let e : f (suc k) ≡ g (suc k) = h (suc k) (omega arith) in
    rw (sum_same f g k (λ i p. h i (omega arith)), e)

-- the first term taken off
sum_first : (f : ℕ → ℕ) (k : ℕ) → sum_through f (suc k) ≡ f 0 + sum_through (λ i. f (suc i)) k
sum_first f zero = refl
sum_first f (suc k) = ap (λ (n : ℕ). n + f (suc (suc k))) (sum_first f k) ∙ add_assoc (f 0) (sum_through (λ i. f (suc i)) k) (f (suc (suc k)))

sum_times : (f : ℕ → ℕ) (k : ℕ) → sum_through (λ i. 256 * f i) k ≡ 256 * sum_through f k
sum_times f zero = refl
sum_times f (suc k) = let e = sum_times f k in omega (arith, e)

-- from its last term on
sum_back : (f : ℕ → ℕ) (k : ℕ) → sum_through f k ≡ sum_through (λ i. f (k - i)) k
sum_back f zero = refl
sum_back f (suc k) =
    let e = sum_back f k in
    let g = sum_first (λ i. f (suc k - i)) k in
    let h : sum_through (λ i. f (suc k - suc i)) k ≡ sum_through (λ i. f (k - i)) k = sum_same (λ i. f (suc k - suc i)) (λ i. f (k - i)) k (λ i p. let d : suc k - suc i ≡ k - i = omega arith in ap f d) in
    let z : f (suc k - 0) ≡ f (suc k) = (let d : suc k - 0 ≡ suc k = omega arith in ap f d) in
    omega (arith, e, g, h, z)

little_sum : (k b : ℕ) (bs : List ℕ) → length bs ≡ k → sum_through (λ i. byte_worth i (slice_index (b ∷ bs) i)) k ≡ little (b ∷ bs)
little_sum zero b [] h = omega arith
little_sum zero b (c ∷ cs) h = absurd (omega arith)
little_sum (suc k) b [] h = absurd (omega arith)
little_sum (suc k) b (c ∷ cs) h =
    sum_first (λ i. byte_worth i (slice_index (b ∷ c ∷ cs) i)) k
    ∙ ap (λ (n : ℕ). b + n) (sum_same _ (λ i. 256 * byte_worth i (slice_index (c ∷ cs) i)) k (λ i p. worth_more i (slice_index (c ∷ cs) i)) ∙ sum_times (λ i. byte_worth i (slice_index (c ∷ cs) i)) k ∙ ap (λ (n : ℕ). 256 * n) (little_sum k c cs (omega arith)))

from_low : (k : ℕ) (bs : List ℕ) → length bs ≡ suc k → sum_through (λ i. byte_worth i (slice_index bs i)) k ≡ little bs
from_low k [] h = absurd (omega arith)
from_low k (b ∷ bs) h = little_sum k b bs (omega arith)

from_high : (k : ℕ) (bs : List ℕ) → length bs ≡ suc k → sum_through (λ i. byte_worth (k - i) (slice_index bs i)) k ≡ little (reverse bs)
from_high k bs h =
    sum_back (λ i. byte_worth (k - i) (slice_index bs i)) k
    ∙ sum_same (λ i. byte_worth (k - (k - i)) (slice_index bs (k - i))) (λ i. byte_worth i (slice_index (reverse bs) i)) k (λ i p.
    let at : k - i ≡ length bs - 1 - i = omega arith in
    let there : k - (k - i) ≡ i = omega arith in
    rw there (ap (byte_worth i) (ap (slice_index bs) at ∙ sym (get_or-reverse bs i 0 (omega arith)))))
    ∙ from_low k (reverse bs) (length-reverse bs ∙ h)

byte_len_pos : (w : Width) → byte_len w ≡ suc (byte_len w - 1)
byte_len_pos w8 = refl
byte_len_pos w16 = refl
byte_len_pos w32 = refl
byte_len_pos w64 = refl
byte_len_pos w128 = refl

pub spelled_little : (w : Width) (bs : List ℕ) → length bs ≡ byte_len w → from_le_bytes w bs ≡ spelled Little bs
unfolding spelled
spelled_little w bs h = from_low (byte_len w - 1) bs (h ∙ byte_len_pos w)

pub spelled_big : (w : Width) (bs : List ℕ) → length bs ≡ byte_len w → from_be_bytes w bs ≡ spelled Big bs
unfolding spelled
spelled_big w bs h = from_high (byte_len w - 1) bs (h ∙ byte_len_pos w)

-- a byte is itself in every order
-- the bytes the other way round, read lowest first, are read highest first
pub turned2 : (s : List ℕ) → ◌≡◌ {A = ℕ} (get_or s 1 0 + get_or s 0 0 * 256) (from_be_bytes w16 s)
turned2 s = omega arith

pub turned4 : (s : List ℕ) → ◌≡◌ {A = ℕ} (get_or s 3 0 + get_or s 2 0 * 256 + get_or s 1 0 * 65536 + get_or s 0 0 * 16777216) (from_be_bytes w32 s)
turned4 s = omega arith

pub spelled_byte : (order : ByteOrder) (bs : List ℕ) → length bs ≡ 1 → slice_index bs 0 ≡ spelled order bs
spelled_byte Little bs h = spelled_little w8 bs h
spelled_byte Big bs h = spelled_big w8 bs h

-- the only item of a list, set
pub set_only : (l : List ℕ) (b : ℕ) → length l ≡ 1 → set l 0 b ≡ b ∷ []
set_only [] b h = absurd (omega arith)
set_only (a ∷ []) b h = refl
set_only (a ∷ c ∷ l) b h = absurd (omega arith)

-- ---- the bits of a signed number

by_half : (n : ℕ) (t : Bool) → sel t (pos n) (negsuc (2 ^ 16 - suc n)) ≡ cond t (pos n) (negsuc (65535 - n))
by_half n true = refl
by_half n false = ap negsuc (omega arith)

signed_is : (n : ℕ) → cast_signed w16 n ≡ signed_of n
unfolding signed_of
signed_is n = by_half n (ltb n 32768)

bits_is : (x : ℤ) → cast_unsigned w16 x ≡ bits_of x
unfolding bits_of
bits_is (pos n) = refl
bits_is (negsuc n) = omega arith

-- the same of a signed number as the code holds it
pub signed_held : (n : ℕ) (x : ℤ) → n < 65536 → x ≡ cast_signed w16 n → cast_signed w16 (cast_unsigned w16 x) ≡ signed_of n
signed_held n x h e = ap (λ z. cast_signed w16 (cast_unsigned w16 z)) e ∙ to_z-of_z {w = w16} (sfits_to_z (record { fits = h })) ∙ signed_is n

pub bits_held : (x : ℤ) (u : ℕ) → SFits w16 x → u ≡ cast_unsigned w16 (cast_signed w16 (cast_unsigned w16 x)) → u ≡ bits_of x
bits_held x u f e = e ∙ ap (cast_unsigned w16) (to_z-of_z f) ∙ bits_is x
