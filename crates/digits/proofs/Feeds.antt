-- The laws of a text that is taken byte by byte, up to its line feed.
use mathlib.Core.Path.{◌≡◌, refl, sym, ap, ◌∙◌}
use mathlib.Core.Bool.{Bool, true, false, cond}
use Prim.Native.Nat.{ℕ, ◌+◌, ◌-◌, ◌≤◌, ◌<◌}
use native.Mathlib.Numerals.{add-one}
use native.Mathlib.Omega.{arith}
use mathlib.Core.List.{List, [], ◌∷◌}
use lib.ListN.{length, drop, get_or, drop_of_length-le}
use lib.Seq.{drop-cons}
use lib.Dec.{eqb, leb, ltb}
use borrow.Author.Tests.{eq-eqb, ne_eqb, leb-true, ltb-true, lt-ltb, le-ltb}
use Rattle.std.specs.Prelude.{Option, Some, None}
use Rattle.digits.specs.Digits.{value_of, line_after, bytes_after, before_feed, line_after_all, bytes_after_all, feed_place, fed}
use Rattle.digits.specs.declared.Fed.{Fed}
use Rattle.digits.specs.declared.Line.{Line}

-- a digit's value is below 16
small_by : (t : Bool) (x v : ℕ) (o : Option ℕ) → (t ≡ true → x < 16) → (o ≡ Some v → v < 16) → cond t (Some x) o ≡ Some v → v < 16
small_by true x v o f g e = let h = f refl in let k : x ≡ v = cc in omega (arith, h)
small_by false x v o f g e = g e

none_by : (t : Bool) (v : ℕ) (o : Option ℕ) → (o ≡ Some v → v < 16) → cond t None o ≡ Some v → v < 16
none_by true v o g e = cc
none_by false v o g e = g e

pub digit_small : (b v : ℕ) → value_of b ≡ Some v → v < 16
unfolding value_of
digit_small b v e =
    none_by (ltb b 48) v _ (small_by (leb b 57) (b - 48) v _ (λ t. let h = leb-true b 57 t in omega (arith, h))
    (none_by (ltb b 65) v _ (small_by (leb b 70) (b - 65 + 10) v _ (λ t. let h = leb-true b 70 t in omega (arith, h))
    (none_by (ltb b 97) v _ (small_by (leb b 102) (b - 97 + 10) v _ (λ t. let h = leb-true b 102 t in omega (arith, h)) (λ n. cc)))))) e

-- what is left to be taken from a place on: none at the end, none at a line feed, else the byte there and what is left after it
pub left_none : (t : List ℕ) (i : ℕ) → length t ≤ i → before_feed (drop i t) ≡ []
unfolding before_feed
left_none t i h = rw (drop_of_length-le t h)

pub left_fed : (t : List ℕ) (i : ℕ) → i < length t → get_or t i 0 ≡ 10 → before_feed (drop i t) ≡ []
unfolding before_feed
left_fed t i h e = rw (drop-cons t i 0 h) (simp (eq-eqb (get_or t i 0) 10 e))

pub left_more : (t : List ℕ) (i : ℕ) → i < length t → (get_or t i 0 ≡ 10 → ⊥) → before_feed (drop i t) ≡ get_or t i 0 ∷ before_feed (drop (i + 1) t)
unfolding before_feed
left_more t i h e = rw (drop-cons t i 0 h, add-one) (simp (ne_eqb (get_or t i 0) 10 e))

-- no more than there is
short_by : (q : Bool) (b : ℕ) (s t : List ℕ) → length s ≤ length t → length (cond q [] (b ∷ s)) ≤ length (b ∷ t)
short_by true b s t h = omega arith
short_by false b s t h = omega arith

pub left_short : (t : List ℕ) → length (before_feed t) ≤ length t
unfolding before_feed
left_short [] = omega arith
left_short (b ∷ t) = short_by (eqb b 10) b (before_feed t) t (left_short t)

some_by : (t : Bool) (n k : ℕ) → cond t (Some n) None ≡ Some k → (t ≡ true) × (n ≡ k)
some_by true n k e = (refl, cc)
some_by false n k e = cc

-- a line feed stands within the text
pub fed_within : (t : List ℕ) (l : Line) (k : ℕ) → (fed t l).feed ≡ Some k → k < length t
unfolding fed feed_place
fed_within t l k e =
    let f = some_by (ltb (length (before_feed t)) (length t)) (length (before_feed t)) k e in
    let within = ltb-true (length (before_feed t)) (length t) f.0 in
    omega (arith, f.1)

-- the line l and the bytes s at i, with what is left of the text, come to what the whole text comes to
pub record Going (t : List ℕ) (line : Line) (s₀ : List ℕ) (i : ℕ) (l : Line) (s : List ℕ) : Type 0 where
  pub lines : line_after_all l (before_feed (drop i t)) ≡ line_after_all line (before_feed t)
  pub bytes : bytes_after_all s l (before_feed (drop i t)) ≡ bytes_after_all s₀ line (before_feed t)
  pub place : i + length (before_feed (drop i t)) ≡ length (before_feed t)

pub going_on : (t : List ℕ) (line : Line) (s₀ : List ℕ) (i : ℕ) (l : Line) (s : List ℕ) → i < length t → (get_or t i 0 ≡ 10 → ⊥)
    → Going t line s₀ i l s
    → Going t line s₀ (i + 1) (line_after l (get_or t i 0)) (bytes_after s l (get_or t i 0))
unfolding line_after_all bytes_after_all
going_on t line s₀ i l s h e g =
    let m = left_more t i h e in
    record {
      lines = sym (ap (line_after_all l) m) ∙ g.lines;
      bytes = sym (ap (bytes_after_all s l) m) ∙ g.bytes;
      place = omega (arith, ap length m, g.place);
    }

-- where nothing is left: the line feed stands here, or there is none
module _ (t : List ℕ) (line : Line) (s₀ : List ℕ) (i : ℕ) (l : Line) (s : List ℕ) (e : before_feed (drop i t) ≡ []) (g : Going t line s₀ i l s) where
  stands : i ≡ length (before_feed t)
  stands = omega (arith, ap length e, g.place)

  pub bytes_end : s ≡ bytes_after_all s₀ line (before_feed t)
  unfolding bytes_after_all
  bytes_end = sym (ap (bytes_after_all s l) e) ∙ g.bytes

  lines_end : l ≡ line_after_all line (before_feed t)
  unfolding line_after_all
  lines_end = sym (ap (line_after_all l) e) ∙ g.lines

  pub fed_here : i < length t → ◌≡◌ {A = Fed} (record { line = l; feed = Some i }) (fed t line)
  unfolding fed feed_place
  fed_here h = rw (← lines_end, ← stands, lt-ltb i (length t) h) refl

  pub fed_nowhere : length t ≤ i → ◌≡◌ {A = Fed} (record { line = l; feed = None }) (fed t line)
  unfolding fed feed_place
  fed_nowhere h = rw (← lines_end, ← stands, le-ltb i (length t) h) refl
