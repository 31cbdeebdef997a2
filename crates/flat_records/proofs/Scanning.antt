-- A search for the first word that is not below its bound, over a run of words and over a list of bounds.
use Rattle.std.proofs.Common.{◌≡◌, ℕ, zero, suc, ◌+◌, ◌≤◌, ◌<◌, Bool, true, false, cond, ltb, leb, List, [], ◌∷◌, length, get_or, take, drop, Option, Some, None, Ok, Err, refl, sym, ap, subst, ◌∙◌, drop-cons, arith}
use Rattle.std.specs.List.{position, position_from}
use Rattle.std.proofs.lemmas.Iterator.Adapters.{position_from-zero}
use borrow.Author.Tests.{lt-ltb, le-ltb, leb-true, leb-false}
use Rattle.strip_records.specs.declared.kind.Kind.{Kind}
use Rattle.strip_records.specs.declared.kind.Kind.TheVariants.{Pan1, Pic1, Txt1, Wnd1, Ali1}
use Rattle.flat_records.specs.Below.{Checked, good, bad, scanned, or_scanned, Bound, checked_by, all_within, base_bounds, picture_bounds, font_bounds, shadow_bounds, window_bounds, alignment_bounds, own_checked}
use Rattle.flat.specs.declared.words.BadWord.{BadWord}
use Rattle.flat_records.proofs.Alike.{both_true}

-- ---- a run of words

-- what the first place in a run tells
abbrev pub told : ℕ → Option ℕ → Checked
told from None = good
told from (Some i) = bad (from + i)

by_test : (x bound from i p : ℕ) → p ≡ from + i → (t : Bool) (o : Option ℕ) (c : Checked) → leb bound x ≡ t → told from o ≡ c
    → told from (cond t (Some i) o) ≡ cond (ltb x bound) c (bad p)
by_test x bound from i p e true o c f g = rw (le-ltb x bound (leb-true bound x f), e) refl
by_test x bound from i p e false o c f g = rw (lt-ltb x bound (leb-false bound x f)) g

found_from : (w : List ℕ) (from bound n p i : ℕ) → p ≡ from + i → p + n ≤ length w → told from (position_from (leb bound) i (take n (drop p w))) ≡ scanned w p n bound
unfolding scanned
found_from w from bound zero p i e h = refl
found_from w from bound (suc n) p i e h =
    let k : p < length w = omega arith in
    let g : p + 1 ≡ suc p = omega arith in
    let rest = found_from w from bound n (p + 1) (i + 1) (omega arith) (omega arith) in
    let next = subst (λ (q : ℕ). told from (position_from (leb bound) (i + 1) (take n (drop q w))) ≡ scanned w (p + 1) n bound) g rest in
    rw (drop-cons w p 0) (by_test (get_or w p 0) bound from i p e (leb bound (get_or w p 0)) _ _ refl next)

pub found : (w : List ℕ) (from count bound : ℕ) (o : Option ℕ) → from + count ≤ length w → o ≡ position (λ x. leb bound x) (take count (drop from w)) → told from o ≡ scanned w from count bound
found w from count bound o h e =
    ap (told from) (e ∙ position_from-zero (leb bound) (take count (drop from w))) ∙ found_from w from bound count from 0 (omega arith) h

-- ---- a list of bounds

-- what was bad stays bad
pub after_bad : (b : BadWord) (bs : List Bound) (w : List ℕ) → checked_by (Err b) bs w ≡ Err b
unfolding or_scanned
after_bad b [] w = refl
after_bad b ((from, count, bound) ∷ bs) w = after_bad b bs w

-- those of all bounds are words of a record
pub within_at : (bs : List Bound) (i : ℕ) → all_within bs ≡ true → i < length bs → (get_or bs i (0, 0, 0)).0 + (get_or bs i (0, 0, 0)).1 ≤ 116
within_at [] i h k = absurd (omega arith)
within_at ((from, count, bound) ∷ bs) zero h k = leb-true (from + count) 116 (both_true (leb (from + count) 116) (all_within bs) h).0
within_at ((from, count, bound) ∷ bs) (suc i) h k = within_at bs i (both_true (leb (from + count) 116) (all_within bs) h).1 (omega arith)

module _ (bs : List Bound) (w : List ℕ) (i : ℕ) (h : checked_by good bs w ≡ checked_by good (drop i bs) w) (k : i < length bs) where
  abbrev here : Bound
  here = get_or bs i (0, 0, 0)

  at_here : checked_by good bs w ≡ checked_by (scanned w here.0 here.1 here.2) (drop (suc i) bs) w
  unfolding or_scanned
  at_here = h ∙ ap (λ (rest : List Bound). checked_by good rest w) (drop-cons bs i (0, 0, 0) k)

  pub checked_on : (r : Checked) (u : Unit {0}) → r ≡ scanned w here.0 here.1 here.2 → r ≡ Ok u → checked_by good bs w ≡ checked_by good (drop (i + 1) bs) w
  checked_on r u e f =
      let g : i + 1 ≡ suc i = omega arith in
      at_here ∙ ap (λ (c : Checked). checked_by c (drop (suc i) bs) w) (sym e ∙ f) ∙ ap (λ (j : ℕ). checked_by good (drop j bs) w) (sym g)

  pub checked_stop : (r : Checked) (b : BadWord) → r ≡ scanned w here.0 here.1 here.2 → r ≡ Err b → Err b ≡ checked_by good bs w
  checked_stop r b e f = sym (at_here ∙ ap (λ (c : Checked). checked_by c (drop (suc i) bs) w) (sym e ∙ f) ∙ after_bad b (drop (suc i) bs) w)

-- ---- the base, then the kind

own_bad : (k : Kind) (b : BadWord) (w : List ℕ) → own_checked k (Err b) w ≡ Err b
own_bad Pan1 b w = refl
own_bad Pic1 b w = after_bad b picture_bounds w
own_bad Txt1 b w = ap (λ (c : Checked). checked_by c shadow_bounds w) (after_bad b font_bounds w) ∙ after_bad b shadow_bounds w
own_bad Wnd1 b w = after_bad b window_bounds w
own_bad Ali1 b w = after_bad b alignment_bounds w

module _ (k : Kind) (w : List ℕ) (r : Checked) (e : r ≡ checked_by good base_bounds w) where
  pub base_stop : (b : BadWord) → r ≡ Err b → Err b ≡ own_checked k (checked_by good base_bounds w) w
  base_stop b f = sym (ap (λ (c : Checked). own_checked k c w) (sym e ∙ f) ∙ own_bad k b w)

  pub base_on : (j : Kind) (u : Unit {0}) (x : Checked) → k ≡ j → r ≡ Ok u → x ≡ own_checked j good w → x ≡ own_checked k (checked_by good base_bounds w) w
  base_on j u x ek f g = rw (ek, ← e, f) g
