-- Laws of the test that every byte is ASCII.
use mathlib.Core.Path.{◌≡◌, refl, ◌∙◌}
use mathlib.Core.List.{List, [], ◌∷◌}
use mathlib.Core.Bool.{Bool, true, false, not, ◌&&◌, ◌||◌, and-true}
use Prim.Native.Nat.{ℕ, zero, suc, ◌+◌, ◌≤◌, ◌<◌}
use native.Mathlib.Numerals.{add-one}
use lib.ListN.{length, get_or, take, drop, drop_of_length-le}
use lib.Seq.{drop-cons}
use lib.Dec.{leb, ltb}
use borrow.Author.Tests.{ltb-true, ltb-false, lt-leb, le-leb}
use Rattle.utf8.specs.Utf8.{well_formed, is_ascii}
use Rattle.utf8.proofs.Tests.{and_left, and_right, and_both}
use Rattle.utf8.proofs.Walk.{well_formed_none, well_formed_step, ascii_one}

-- ---- ASCII is well-formed

ascii_whole : (l : List ℕ) → is_ascii l ≡ true → well_formed l ≡ true
unfolding is_ascii
ascii_whole [] t = well_formed_none
ascii_whole (b ∷ l) t =
    well_formed_step (b ∷ l) 1 (ascii_one b l (ltb-true _ _ (and_left (ltb b 0x80) _ t))) ∙ ascii_whole l (and_right (ltb b 0x80) _ t)

ascii_take : (n : ℕ) (l : List ℕ) → is_ascii l ≡ true → is_ascii (take n l) ≡ true
unfolding is_ascii
ascii_take zero l t = refl
ascii_take (suc n) [] t = refl
ascii_take (suc n) (b ∷ l) t = and_both _ _ (and_left (ltb b 0x80) _ t) (ascii_take n l (and_right (ltb b 0x80) _ t))

-- and so is every prefix of it
pub ascii_formed : (n : ℕ) (l : List ℕ) → is_ascii l ≡ true → well_formed (take n l) ≡ true
ascii_formed n l t = ascii_whole (take n l) (ascii_take n l t)

-- ---- a byte more, and the end: high says whether a byte before i was 0x80 or above, those from i on are left

low_not : (b : ℕ) → ltb b 0x80 ≡ not (leb 0x80 b)
low_not b = go (ltb b 0x80) refl
  where
    go : (t : Bool) → ltb b 0x80 ≡ t → t ≡ not (leb 0x80 b)
    go true e = rw (lt-leb 0x80 b (ltb-true _ _ e))
    go false e = rw (le-leb 0x80 b (ltb-false _ _ e))

pub low_step : (s : List ℕ) (i : ℕ) (high : Bool) → i < length s
    → (not high && is_ascii (drop i s)) ≡ (not (high || leb 0x80 (get_or s i 0)) && is_ascii (drop (i + 1) s))
unfolding is_ascii
low_step s i true h = refl
low_step s i false h = rw (add-one i, drop-cons s i 0 h, low_not (get_or s i 0))

pub low_out : (s : List ℕ) (i : ℕ) (high : Bool) → length s ≤ i → (not high && is_ascii (drop i s)) ≡ not high
unfolding is_ascii
low_out s i high h = rw (drop_of_length-le s h) (and-true (not high))
