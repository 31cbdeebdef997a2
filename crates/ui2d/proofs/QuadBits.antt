-- Quads in a list of bits: what is stored is loaded, and a quad is its eight numbers.
use mathlib.Core.Path.{◌≡◌, refl, sym, ap, ◌∙◌}
use Prim.Native.Nat.{ℕ, suc, ◌+◌, ◌≤◌, ◌<◌}
use native.Mathlib.Omega.{arith}
use native.Mathlib.Nat.{add_assoc}
use native.Mathlib.Numerals.{add-one}
use mathlib.Core.List.{List, ◌∷◌}
use lib.ListN.{length, take, drop, get_or}
use lib.Seq.{drop-cons, take_all}
use Rattle.core_read.specs.Bytes.{splice}
use Rattle.core_write.proofs.Puts.{length_splice, splice_read}
use Rattle.ui2d.specs.Quads.{vector_bits, quad_bits, vector_at, quad_at}
use Rattle.ui2d.specs.declared.Quad.{Quad}

step : (n : ℕ) (l : List ℕ) (at : ℕ) → at < length l → take (suc n) (drop at l) ≡ get_or l at 0 ∷ take n (drop (at + 1) l)
step n l at h = rw (add-one, drop-cons l at 0)

-- the numbers of the quad at a number are the eight numbers from there on
pub quad_cut : (l : List ℕ) (at : ℕ) → at + 8 ≤ length l → quad_bits (quad_at l at) ≡ take 8 (drop at l)
unfolding quad_bits vector_bits quad_at vector_at
quad_cut l at h =
    simp (
      step 7 l at (omega arith),
      step 6 l (at + 1) (omega arith),
      step 5 l (at + 2) (omega arith),
      step 4 l (at + 3) (omega arith),
      step 3 l (at + 4) (omega arith),
      step 2 l (at + 5) (omega arith),
      step 1 l (at + 6) (omega arith),
      step 0 l (at + 7) (omega arith),
      add_assoc,
    )

-- the two are inverse
pub quad_bits_lem : (q : Quad) → quad_at (quad_bits q) 0 ≡ q
unfolding quad_bits vector_bits quad_at vector_at
quad_bits_lem q = refl

pub bits_quad : (l : List ℕ) → length l ≡ 8 → quad_bits (quad_at l 0) ≡ l
bits_quad l h = quad_cut l 0 (omega arith) ∙ take_all 8 l (omega arith)

-- the quad at a number is that of the eight numbers from there on
pub quad_of_cut : (l : List ℕ) (at : ℕ) → at + 8 ≤ length l → quad_at l at ≡ quad_at (take 8 (drop at l)) 0
quad_of_cut l at h = sym (quad_bits_lem (quad_at l at)) ∙ ap (λ (m : List ℕ). quad_at m 0) (quad_cut l at h)

pub length_quad_bits : (q : Quad) → length (quad_bits q) ≡ 8
unfolding quad_bits vector_bits
length_quad_bits q = refl

-- what was stored is loaded
pub stored_back : (l : List ℕ) (at : ℕ) (q : Quad) → at + 8 ≤ length l → quad_at (splice l at (quad_bits q)) at ≡ q
unfolding quad_bits vector_bits
stored_back l at q h =
    quad_of_cut (splice l at (quad_bits q)) at (rw length_splice h)
    ∙ ap (λ (m : List ℕ). quad_at m 0) (splice_read l at (quad_bits q) h)
    ∙ quad_bits_lem q
