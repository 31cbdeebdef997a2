-- Laws of the scan of the units of UTF-16, at a place of the list.
use mathlib.Core.Path.{◌≡◌, refl, ap, sym, ◌∙◌}
use mathlib.Core.List.{List, [], ◌∷◌}
use mathlib.Core.Bool.{Bool, true, false}
use Prim.Native.Nat.{ℕ, suc, ◌+◌, ◌-◌, ◌≤◌, ◌<◌}
use native.Mathlib.Omega.{arith}
use native.Mathlib.Numerals.{add-one}
use lib.ListN.{length, get_or, drop, drop_of_length-le}
use lib.Seq.{drop-cons}
use lib.Dec.{leb}
use borrow.Author.Tests.{leb-true, lt-leb, not-false, not-true}
use Rattle.std.specs.Prelude.{Option, Some, None, is_some, IfSome}
use Rattle.std.specs.Bool.{then_some}
use Rattle.std.specs.Option.{option_or}
use Rattle.utf8.proofs.Tests.{and_left, and_none}
use Rattle.utf16.specs.Utf16.{high_surrogate, low_surrogate, breaks, scan, utf16_of}

pub one_less : (i : ℕ) → Some (i + 1 - 1) ≡ Some i
one_less i = ap Some (omega arith)

pub scan_out : (s : List ℕ) (i : ℕ) → length s ≤ i → scan false i (drop i s) ≡ None
unfolding scan
scan_out s i h = rw (drop_of_length-le s h)

module _ (s : List ℕ) (i : ℕ) (h : i < length s) where
  pub scan_low : low_surrogate (get_or s i 0) ≡ true → scan false i (drop i s) ≡ Some i
  unfolding scan
  scan_low e = rw (drop-cons s i 0 h, e)

  -- a high surrogate waits for its pair
  module _ (e : low_surrogate (get_or s i 0) ≡ false) (f : high_surrogate (get_or s i 0) ≡ true) where
    waits : scan false i (drop i s) ≡ scan true (i + 1) (drop (i + 1) s)
    unfolding scan
    waits = rw (add-one i, drop-cons s i 0 h, e, f, add-one)

    pub scan_end : length s ≤ i + 1 → scan false i (drop i s) ≡ Some i
    unfolding scan
    scan_end k = waits ∙ rw (drop_of_length-le s k) (one_less i)

    pub scan_lone : i + 1 < length s → low_surrogate (get_or s (i + 1) 0) ≡ false → scan false i (drop i s) ≡ Some i
    unfolding scan
    scan_lone k g = waits ∙ rw (drop-cons s (i + 1) 0 k, g) (one_less i)

-- ---- unit by unit: one that may stand there, one that may not, and the end

low_not_high : (u : ℕ) → low_surrogate u ≡ true → high_surrogate u ≡ false
unfolding low_surrogate high_surrogate
low_not_high u e =
    let h : 0xDC00 ≤ u = leb-true _ _ (and_left (leb 0xDC00 u) (leb u 0xDFFF) e) in
    rw (lt-leb u 0xDBFF (omega arith)) (and_none (leb 0xD800 u))

pub scan_on : (waits : Bool) (i u : ℕ) (l : List ℕ) → breaks waits u ≡ false → scan waits i (u ∷ l) ≡ scan (high_surrogate u) (i + 1) l
unfolding scan
scan_on true i u l e = let h = not-false (low_surrogate u) e in rw (h, low_not_high u h)
scan_on false i u l e = rw e

-- the high surrogate that waits stands right before place i, if there is one
abbrev Before : Option ℕ → ℕ → Type 0
Before waits i = IfSome waits (λ w. w + 1 ≡ i)

scan_off : (waits : Option ℕ) (i u : ℕ) (l : List ℕ) → Before waits i → breaks (is_some waits) u ≡ true → scan (is_some waits) i (u ∷ l) ≡ option_or waits (Some i)
unfolding scan
scan_off None i u l h e = rw e
scan_off (Some w) i u l h e = rw (not-true (low_surrogate u) e) (ap Some (omega (arith, h)))

scan_over : (waits : Option ℕ) (i : ℕ) → Before waits i → scan (is_some waits) i [] ≡ waits
unfolding scan
scan_over None i h = refl
scan_over (Some w) i h = ap Some (omega (arith, h))

-- ---- after i units of l, of which the last may wait, the scan of what is left gives the answer for the whole

pub record Scanned (l : List ℕ) (i : ℕ) (waits : Option ℕ) : Type 0 where
  pub before : Before waits i
  pub same : utf16_of l ≡ scan (is_some waits) i (drop i l)

pub scanned_none : (l : List ℕ) → Scanned l 0 None
unfolding utf16_of
scanned_none l = record { before = tt; same = refl }

waits_on : (b : Bool) (i : ℕ) → Before (then_some b i) (i + 1) × (is_some (then_some b i) ≡ b)
waits_on true i = (refl, refl)
waits_on false i = (tt, refl)

module _ (l : List ℕ) (i : ℕ) (waits : Option ℕ) (s : Scanned l i waits) where
  pub scanned_more : i < length l → breaks (is_some waits) (get_or l i 0) ≡ false → Scanned l (i + 1) (then_some (high_surrogate (get_or l i 0)) i)
  scanned_more h e =
      let w = waits_on (high_surrogate (get_or l i 0)) i in
      record {
        before = w.0;
        same = s.same ∙ rw (w.1, drop-cons l i 0 h, ← add-one i) (scan_on (is_some waits) i (get_or l i 0) (drop (i + 1) l) e);
      }

  pub scanned_off : i < length l → breaks (is_some waits) (get_or l i 0) ≡ true → option_or waits (Some i) ≡ utf16_of l
  scanned_off h e = sym (s.same ∙ rw (drop-cons l i 0 h) (scan_off waits i (get_or l i 0) (drop (suc i) l) s.before e))

  pub scanned_over : length l ≤ i → waits ≡ utf16_of l
  scanned_over h = sym (s.same ∙ rw (drop_of_length-le l h) (scan_over waits i s.before))
