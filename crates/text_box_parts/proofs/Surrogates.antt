-- The scan of UTF-16 unit by unit, where only the verdict is kept.
use mathlib.Core.Path.{◌≡◌, refl, ap, sym, ◌∙◌}
use mathlib.Core.List.{List, [], ◌∷◌, ◌++◌}
use mathlib.Core.Bool.{Bool, true, false, not}
use Prim.Native.Nat.{ℕ, zero, suc, ◌+◌, ◌-◌, ◌*◌, ◌≤◌, ◌<◌}
use native.Mathlib.Omega.{arith}
use borrow.Author.Tests.{not-true}
use native.Mathlib.Nat.{add-zero, add_assoc, mul-suc}
use lib.ListN.{length, take, drop, length-append, length-drop}
use lib.Seq.{drop-drop, length-take-le, drop-append_seam}
use Rattle.std.proofs.lemmas.List.{drop-take, take-take, take-append-le}
use Rattle.core_read.specs.Bytes.{part, number_at}
use Rattle.core_read.specs.Lists.{numbers_at}
use Rattle.core_read.specs.declared.cursor.ByteOrder.{ByteOrder}
use Rattle.utf16.specs.Utf16.{high_surrogate, low_surrogate, breaks, scan, utf16_of, is_well_formed, well_formed16}
use Rattle.utf16.proofs.Scan.{scan_on}

-- a unit that may stand there, one that may not, and the end
pub scan_past : (waits : Bool) (i u : ℕ) (l : List ℕ) → breaks waits u ≡ false
    → is_well_formed (scan waits i (u ∷ l)) ≡ is_well_formed (scan (high_surrogate u) (i + 1) l)
scan_past waits i u l e = ap is_well_formed (scan_on waits i u l e)

pub scan_off : (waits : Bool) (i u : ℕ) (l : List ℕ) → breaks waits u ≡ true → is_well_formed (scan waits i (u ∷ l)) ≡ false
unfolding scan
scan_off true i u l e = rw (not-true (low_surrogate u) e)
scan_off false i u l e = rw e

scan_over : (waits : Bool) (i : ℕ) → is_well_formed (scan waits i []) ≡ not waits
unfolding scan
scan_over true i = refl
scan_over false i = refl

-- ---- numbers of a part of a list

part_dropped : (w at j : ℕ) (s : List ℕ) → part w (drop at s) j ≡ part w s (at + j)
unfolding part
part_dropped w at j s = ap (take w) (drop-drop j at s)

part_taken : (w m j : ℕ) (s : List ℕ) → j + w ≤ m → part w (take m s) j ≡ part w s j
unfolding part
part_taken w m j s h =
    let e : m ≡ j + (m - j) = omega arith in
    rw (e, drop-take j (m - j) s) (take-take w (m - j) (drop j s) (omega arith))

numbers_dropped : (order : ByteOrder) (w n at j : ℕ) (s : List ℕ) → numbers_at order w n (drop at s) j ≡ numbers_at order w n s (at + j)
unfolding numbers_at number_at
numbers_dropped order w zero at j s = refl
numbers_dropped order w (suc n) at j s = rw (part_dropped w at j s, numbers_dropped order w n at (j + w) s, add_assoc at j w)

numbers_cut : (order : ByteOrder) (w n m j : ℕ) (s : List ℕ) → j + w * n ≤ m → numbers_at order w n (take m s) j ≡ numbers_at order w n s j
unfolding numbers_at number_at
numbers_cut order w zero m j s h = refl
numbers_cut order w (suc n) m j s h =
    let e = mul-suc w n in
    rw (part_taken w m j s (omega (arith, e, h)), numbers_cut order w n m (j + w) s (omega (arith, e, h)))

-- the first of the numbers of two bytes, where a list starts with its bytes x
numbers_split : (order : ByteOrder) (k : ℕ) (x r : List ℕ) → length x ≡ 2 → numbers_at order 2 (suc k) (x ++ r) 0 ≡ number_at order 2 x 0 ∷ numbers_at order 2 k r 0
unfolding numbers_at number_at part
numbers_split order k x r e =
    let first : take 2 (x ++ r) ≡ take 2 x = take-append-le 2 x r (omega arith) in
    let rest : drop 2 (x ++ r) ≡ r = rw (← e) (drop-append_seam x r) in
    let left : numbers_at order 2 k (x ++ r) 2 ≡ numbers_at order 2 k r 0 = sym (numbers_dropped order 2 k 2 0 (x ++ r)) ∙ rw rest in
    rw (first, left)

-- ---- over the pairs of bytes of a part, of which some are left: in a state, the verdict on what is left is that on the whole

pub record Left (order : ByteOrder) (s : List ℕ) (at n : ℕ) (waits : Bool) (rest : List ℕ) : Type 0 where
  pub i : ℕ
  pub m : ℕ
  pub long : length rest ≡ 2 * m
  pub same : well_formed16 (numbers_at order 2 n s at) ≡ is_well_formed (scan waits i (numbers_at order 2 m rest 0))

pub left_none : (order : ByteOrder) (s : List ℕ) (at n : ℕ) → at + 2 * n ≤ length s → Left order s at n false (take (2 * n) (drop at s))
unfolding utf16_of
left_none order s at n h =
    record {
      i = 0;
      m = n;
      long = length-take-le (2 * n) (drop at s) (omega (arith, length-drop at s));
      same = rw (numbers_cut order 2 n (2 * n) 0 (drop at s) (omega arith), numbers_dropped order 2 n at 0 s, add-zero at);
    }

module _ (order : ByteOrder) (s : List ℕ) (at n : ℕ) (waits : Bool) (rest : List ℕ) (h : Left order s at n waits rest) where
  module _ (x r : List ℕ) (u : ℕ) (e : rest ≡ x ++ r) (long : length x ≡ 2) (is : u ≡ number_at order 2 x 0) where
    -- the next unit
    next : numbers_at order 2 h.m rest 0 ≡ u ∷ numbers_at order 2 (h.m - 1) r 0
    next =
        let m : h.m ≡ suc (h.m - 1) = omega (arith, h.long, ap length e, length-append x r, long) in
        ap (λ (j : ℕ). numbers_at order 2 j rest 0) m ∙ rw (e, is) (numbers_split order (h.m - 1) x r long)

    pub left_more : breaks waits u ≡ false → Left order s at n (high_surrogate u) r
    left_more b =
        record {
          i = h.i + 1;
          m = h.m - 1;
          long = omega (arith, h.long, ap length e, length-append x r, long);
          same = h.same ∙ rw next (scan_past waits h.i u (numbers_at order 2 (h.m - 1) r 0) b);
        }

    pub left_off : breaks waits u ≡ true → false ≡ well_formed16 (numbers_at order 2 n s at)
    left_off b = sym (h.same ∙ rw next (scan_off waits h.i u (numbers_at order 2 (h.m - 1) r 0) b))

  pub left_over : length rest < 2 → not waits ≡ well_formed16 (numbers_at order 2 n s at)
  unfolding numbers_at
  left_over l =
      let e : h.m ≡ 0 = omega (arith, h.long) in
      sym (h.same ∙ rw e (scan_over waits h.i))
