-- The laws of `decimal`: its digits are those that `io::decimal` puts, and their value is the number.
use mathlib.Core.Path.{◌≡◌, refl, sym, ap, ◌∙◌}
use Prim.Native.Nat.{ℕ, zero, suc, ◌+◌, ◌-◌, ◌*◌, ◌/◌, ◌%◌, ◌^◌, ◌≤◌, ◌<◌}
use native.Mathlib.Decide.{dec_lt}
use native.Mathlib.Nat.{one-le-pow, pow-le-pow_right}
use native.Mathlib.Omega.{arith}
use mathlib.Core.List.{List, [], ◌∷◌, ◌++◌}
use borrow.Author.Tests.{lt-ltb, le-ltb}
use Rattle.io.specs.Digits.{hex_digit_ascii, last_digits, IsDigitCount}
use Rattle.lines.specs.Decimal.{decimal_in, decimal}

-- ---- one digit, and one more

one_in : (k n : ℕ) → n < 10 → decimal_in (suc k) n ≡ (48 + n % 10) ∷ []
unfolding decimal_in
one_in k n h = simp (lt-ltb n 10 h)

more_in : (k n : ℕ) → 10 ≤ n → decimal_in (suc k) n ≡ decimal_in k (n / 10) ++ ((48 + n % 10) ∷ [])
unfolding decimal_in
more_in k n h = simp (le-ltb n 10 h)

-- any two counts that are enough give the same digits
same_in : (k m n : ℕ) → Dec (n < 10) → (10 ≤ n → decimal_in k (n / 10) ≡ decimal_in m (n / 10)) → decimal_in (suc k) n ≡ decimal_in (suc m) n
same_in k m n (yes h) e = one_in k n h ∙ sym (one_in m n h)
same_in k m n (no h) e =
    let g : 10 ≤ n = omega arith in
    more_in k n g ∙ ap (λ (d : List ℕ). d ++ ((48 + n % 10) ∷ [])) (e g) ∙ sym (more_in m n g)

enough : (k m n : ℕ) → n < k → n < m → decimal_in k n ≡ decimal_in m n
enough zero m n h i = absurd (omega arith)
enough (suc k) zero n h i = absurd (omega arith)
enough (suc k) (suc m) n h i = same_in k m n (dec_lt n 10) (λ g. enough k m (n / 10) (omega arith) (omega arith))

decimal_one : (n : ℕ) → n < 10 → decimal n ≡ (48 + n % 10) ∷ []
unfolding decimal
decimal_one n h = one_in n n h

decimal_more : (n : ℕ) → 10 ≤ n → decimal n ≡ decimal (n / 10) ++ ((48 + n % 10) ∷ [])
unfolding decimal
decimal_more n h = more_in n n h ∙ ap (λ (d : List ℕ). d ++ ((48 + n % 10) ∷ [])) (enough n (suc (n / 10)) (n / 10) (omega arith) (omega arith))

-- ---- the digits that `io::decimal` puts

glyph_low : (d : ℕ) → d < 10 → hex_digit_ascii d ≡ 48 + d
glyph_low d h = simp (lt-ltb d 10 h)

digits_of : (j n : ℕ) → n < 10 ^ suc j → (1 ≤ j → 10 ^ j ≤ n) → last_digits 10 (suc j) n ≡ decimal n
digits_of zero n h i = ap (λ (d : ℕ). d ∷ []) (glyph_low (n % 10) (omega arith)) ∙ sym (decimal_one n (omega arith))
digits_of (suc j) n h i =
    let some : 1 ≤ 10 ^ j = one-le-pow j 10 (omega arith) in
    let low : 10 ^ suc j ≤ n = i (omega arith) in
    let high : last_digits 10 (suc j) (n / 10) ≡ decimal (n / 10) = digits_of j (n / 10) (omega arith) (λ _. omega arith) in
    ap (λ (d : ℕ). last_digits 10 (suc j) (n / 10) ++ (d ∷ [])) (glyph_low (n % 10) (omega arith))
    ∙ ap (λ (s : List ℕ). s ++ ((48 + n % 10) ∷ [])) high
    ∙ sym (decimal_more n (omega arith))

pub fewest_decimal : (n k : ℕ) → IsDigitCount 10 1 n k → last_digits 10 k n ≡ decimal n
fewest_decimal n zero f = absurd (omega arith)
fewest_decimal n (suc j) f =
    let e : suc j - 1 ≡ j = omega arith in
    digits_of j n f.1 (λ h. rw e at (f.2 (omega arith)))

few_by : (n k : ℕ) → IsDigitCount 10 1 n k → n < 10 ^ 20 → Dec (20 < k) → k ≤ 20
few_by n k f h (yes l) =
    let low : 10 ^ (k - 1) ≤ n = f.2 (omega arith) in
    let more : 20 ≤ k - 1 = omega arith in
    let some : 0 < 10 = omega arith in
    let high : 10 ^ 20 ≤ 10 ^ (k - 1) = pow-le-pow_right some {i = 20} {j = k - 1} more in
    absurd (omega arith)
few_by n k f h (no l) = omega arith

-- twenty digits are enough where they hold the number
pub fewest_few : (n k : ℕ) → IsDigitCount 10 1 n k → n < 10 ^ 20 → k ≤ 20
fewest_few n k f h = few_by n k f h (dec_lt 20 k)

-- ---- the number that digits stand for, read from the left

abbrev pub value_from : ℕ → List ℕ → ℕ
value_from a [] = a
value_from a (d ∷ s) = value_from (10 * a + (d - 48)) s

value_last : (a : ℕ) (s : List ℕ) (d : ℕ) → value_from a (s ++ (d ∷ [])) ≡ 10 * value_from a s + (d - 48)
value_last a [] d = refl
value_last a (e ∷ s) d = value_last (10 * a + (e - 48)) s d

value_by : (k n : ℕ) → Dec (n < 10) → (10 ≤ n → value_from 0 (decimal_in k (n / 10)) ≡ n / 10) → value_from 0 (decimal_in (suc k) n) ≡ n
value_by k n (yes h) e = rw (one_in k n h) (omega arith)
value_by k n (no h) e =
    let g : 10 ≤ n = omega arith in
    rw (more_in k n g, value_last 0 (decimal_in k (n / 10)) (48 + n % 10), e g) (omega arith)

value_in : (k n : ℕ) → n < k → value_from 0 (decimal_in k n) ≡ n
value_in zero n h = absurd (omega arith)
value_in (suc k) n h = value_by k n (dec_lt n 10) (λ g. value_in k (n / 10) (omega arith))

-- the digits of n stand for n
pub decimal_value : (n : ℕ) → value_from 0 (decimal n) ≡ n
unfolding decimal
decimal_value n = value_in (suc n) n (omega arith)

-- so two numbers with the same digits are the same
pub decimal_same : (m n : ℕ) → decimal m ≡ decimal n → m ≡ n
decimal_same m n e = sym (decimal_value m) ∙ ap (value_from 0) e ∙ decimal_value n
