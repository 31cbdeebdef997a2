-- A line that spells bytes, two digits each, prints the answer of the section at place 0 of these bytes.
use mathlib.Core.Path.{◌≡◌, refl, ap, ◌∙◌}
use mathlib.Core.Bool.{true, false}
use Prim.Native.Nat.{ℕ, ◌+◌, ◌*◌, ◌/◌, ◌%◌, ◌≤◌, ◌<◌}
use native.Mathlib.Decide.{dec_lt}
use native.Mathlib.Omega.{arith}
use mathlib.Core.List.{List, [], ◌∷◌, ◌++◌}
use lib.ListN.{length, take, set, length-set}
use lib.Seq.{set-set, get_or-set_same}
use lib.Dec.{eqb, leb}
use borrow.Author.Tests.{lt-ltb, le-ltb, le-leb, lt-leb, eq-eqb, ne_eqb}
use Rattle.core_read.specs.Bytes.{splice}
use Rattle.core_write.proofs.Puts.{length_splice, splice_read}
use Rattle.digits.specs.Digits.{value_of, blank_line, half_put, refused, line_after, bytes_after, even_line, before_feed, line_after_all, bytes_after_all}
use Rattle.digits.specs.declared.Line.{Line}
use Rattle.std.specs.Prelude.{Some}
use Rattle.escapes.specs.Escaped.{hex_digit, hex_digits}
use Rattle.lines.specs.Answers.{section_line}
use Rattle.lines.specs.Hexadecimal.{hexadecimal}
use Rattle.strip_records.specs.Typed.{Below}
use Rattle.lines.specs.Answered.{answer_of, answer_to}
use Rattle.lines.specs.Back.{back_line, back_to}

-- ---- a digit

value_by : (v : ℕ) → v < 16 → Dec (v < 10) → value_of (hex_digit v) ≡ Some v
unfolding value_of hex_digit
value_by v h (yes l) =
    let d : 48 + v < 58 = omega arith in
    simp (lt-ltb v 10 l, le-ltb (48 + v) 48 (omega arith), le-leb (48 + v) 57 (omega arith)) (ap Some (omega arith))
value_by v h (no l) =
    let g : 10 ≤ v = omega arith in
    simp (le-ltb v 10 g, le-ltb (55 + v) 48 (omega arith), lt-leb (55 + v) 57 (omega arith), le-ltb (55 + v) 65 (omega arith), le-leb (55 + v) 70 (omega arith)) (ap Some (omega arith))

value_digit : (v : ℕ) → v < 16 → value_of (hex_digit v) ≡ Some v
value_digit v h = value_by v h (dec_lt v 10)

-- a line of so many digits, none of them bad
abbrev line_at : ℕ → Line
line_at d = record { digits = d; bad = false }

taken : (d v : ℕ) → v < 16 → d < 8192 → refused (line_at d) (hex_digit v) ≡ false
unfolding refused
taken d v h i = simp (value_digit v h, lt-leb 8192 d i)

line_taken : (d v : ℕ) → v < 16 → d < 8192 → line_after (line_at d) (hex_digit v) ≡ line_at (d + 1)
unfolding line_after
line_taken d v h i = simp (taken d v h i)

bytes_taken : (o : List ℕ) (d v : ℕ) → v < 16 → d < 8192 → bytes_after o (line_at d) (hex_digit v) ≡ half_put o (d / 2) (eqb (d % 2) 0) v
unfolding bytes_after
bytes_taken o d v h i = simp (taken d v h i, value_digit v h)

high_half : (o : List ℕ) (i d v : ℕ) → d ≡ 2 * i → i < length o → half_put o (d / 2) (eqb (d % 2) 0) v ≡ set o i (v * 16)
unfolding half_put
high_half o i d v e h =
    let half : d / 2 ≡ i = omega arith in
    simp (half, eq-eqb (d % 2) 0 (omega arith), lt-ltb i (length o) h)

low_half : (o : List ℕ) (i d v w : ℕ) → d ≡ 2 * i + 1 → i < length o → half_put (set o i (v * 16)) (d / 2) (eqb (d % 2) 0) w ≡ set o i (v * 16 + w)
unfolding half_put
low_half o i d v w e h =
    let half : d / 2 ≡ i = omega arith in
    let odd : eqb (d % 2) 0 ≡ false = ne_eqb (d % 2) 0 (λ z. omega arith) in
    let whole : v * 16 / 16 * 16 + w ≡ v * 16 + w = omega arith in
    simp (half, odd, length-set, lt-ltb i (length o) h, get_or-set_same o i (v * 16) 0 h, set-set, whole)

-- ---- a byte, and many

-- a byte's two digits, and a text after them
byte_line : (d x : ℕ) (t : List ℕ) → x < 256 → d + 1 < 8192 → line_after_all (line_at d) (hex_digits x ++ t) ≡ line_after_all (line_at (d + 1 + 1)) t
unfolding line_after_all
byte_line d x t h i =
    ap (λ (l : Line). line_after_all (line_after l (hex_digit (x % 16))) t) (line_taken d (x / 16 % 16) (omega arith) (omega arith))
    ∙ ap (λ (l : Line). line_after_all l t) (line_taken (d + 1) (x % 16) (omega arith) i)

byte_bytes : (o : List ℕ) (i d x : ℕ) → x < 256 → d ≡ 2 * i → d + 1 < 8192 → i < length o
    → bytes_after (bytes_after o (line_at d) (hex_digit (x / 16 % 16))) (line_at (d + 1)) (hex_digit (x % 16)) ≡ set o i x
byte_bytes o i d x h e m r =
    let whole : x / 16 % 16 * 16 + x % 16 ≡ x = omega arith in
    ap (λ (s : List ℕ). bytes_after s (line_at (d + 1)) (hex_digit (x % 16))) (bytes_taken o d (x / 16 % 16) (omega arith) (omega arith) ∙ high_half o i d (x / 16 % 16) e r)
    ∙ bytes_taken (set o i (x / 16 % 16 * 16)) (d + 1) (x % 16) (omega arith) m
    ∙ low_half o i (d + 1) (x / 16 % 16) (x % 16) (omega arith) r
    ∙ ap (set o i) whole

byte_all : (o : List ℕ) (i d x : ℕ) (t : List ℕ) → x < 256 → d ≡ 2 * i → d + 1 < 8192 → i < length o
    → bytes_after_all o (line_at d) (hex_digits x ++ t) ≡ bytes_after_all (set o i x) (line_at (d + 1 + 1)) t
unfolding bytes_after_all
byte_all o i d x t h e m r =
    let first = line_taken d (x / 16 % 16) (omega arith) (omega arith) in
    let second = line_taken (d + 1) (x % 16) (omega arith) m in
    rw (first, second, byte_bytes o i d x h e m r)

line_all : (s : List ℕ) (d : ℕ) → Below 256 s → d + 2 * length s ≤ 8192
    → ((line_after_all (line_at d) (hexadecimal s)).digits ≡ d + 2 * length s) × ((line_after_all (line_at d) (hexadecimal s)).bad ≡ false)
unfolding Below hexadecimal line_after_all
line_all [] d b m = (omega arith, refl)
line_all (x ∷ s) d b m =
    let k = line_all s (d + 1 + 1) b.1 (omega arith) in
    rw (byte_line d x (hexadecimal s) b.0 (omega arith)) (k.0 ∙ omega arith, k.1)

bytes_all : (s o : List ℕ) (i d : ℕ) → Below 256 s → d ≡ 2 * i → d + 2 * length s ≤ 8192 → i + length s ≤ length o
    → bytes_after_all o (line_at d) (hexadecimal s) ≡ splice o i s
unfolding Below hexadecimal bytes_after_all splice
bytes_all [] o i d b e m r = refl
bytes_all (x ∷ s) o i d b e m r =
    byte_all o i d x (hexadecimal s) b.0 e (omega arith) (omega arith)
    ∙ bytes_all s (set o i x) (i + 1) (d + 1 + 1) b.1 (omega arith) (omega arith) (simp length-set (omega arith))

-- ---- the line feed

other_by : (v : ℕ) → Dec (v < 10) → hex_digit v ≡ 10 → ⊥
unfolding hex_digit
other_by v (yes l) e = let f = simp (lt-ltb v 10 l) at e in omega arith
other_by v (no l) e =
    let g : 10 ≤ v = omega arith in
    let f = simp (le-ltb v 10 g) at e in
    omega arith

other : (v : ℕ) → eqb (hex_digit v) 10 ≡ false
other v = ne_eqb (hex_digit v) 10 (other_by v (dec_lt v 10))

-- the digits of s are what stands before the line feed after them
pub spelled_line : (s rest : List ℕ) → before_feed (hexadecimal s ++ (10 ∷ rest)) ≡ hexadecimal s
unfolding hexadecimal before_feed
spelled_line [] rest = refl
spelled_line (x ∷ s) rest = simp (other (x / 16 % 16), other (x % 16), spelled_line s rest)

-- ---- the answer

module _ (s o : List ℕ) (b : Below 256 s) (short : length s ≤ 4096) (room : length s ≤ length o) where
  spells : even_line (line_after_all blank_line (hexadecimal s)) (length (bytes_after_all o blank_line (hexadecimal s))) ≡ true
  unfolding even_line blank_line
  spells =
      let l = line_all s 0 b (omega arith) in
      let e = bytes_all s o 0 0 b refl (omega arith) (omega arith) in
      let d = (line_after_all (line_at 0) (hexadecimal s)).digits in
      let n = length (bytes_after_all o (line_at 0) (hexadecimal s)) in
      let room' : n ≡ length o = ap length e ∙ length_splice o 0 s in
      let even : eqb (d % 2) 0 ≡ true = eq-eqb (d % 2) 0 (omega arith) in
      let long : leb (d / 2) n ≡ true = le-leb (d / 2) n (omega arith) in
      simp (l.1, even, long)

  half : (line_after_all blank_line (hexadecimal s)).digits / 2 ≡ length s
  unfolding blank_line
  half = let l = line_all s 0 b (omega arith) in omega (arith, l.0)

  filled : take (length s) (bytes_after_all o blank_line (hexadecimal s)) ≡ s
  unfolding blank_line
  filled = ap (take (length s)) (bytes_all s o 0 0 b refl (omega arith) (omega arith)) ∙ splice_read o 0 s (omega arith)

  -- the digits of s, from the line's begin on, in a buffer with room, print the answer of s
  pub spelled_answer : answer_to (bytes_after_all o blank_line (hexadecimal s)) (line_after_all blank_line (hexadecimal s)) ≡ section_line (answer_of s)
  unfolding answer_to
  spelled_answer = simp (spells, half, filled)

  -- and with a pane written back, the line of s
  pub spelled_back : back_to (bytes_after_all o blank_line (hexadecimal s)) (line_after_all blank_line (hexadecimal s)) ≡ back_line s
  unfolding back_to
  spelled_back = simp (spells, half, filled)
