-- The test for bounds looks at no word that a write does not read.
use mathlib.Core.Path.{◌≡◌, refl, ap, ◌∙◌}
use Prim.Native.Nat.{ℕ, zero, suc, ◌+◌, ◌≤◌}
use native.Mathlib.Omega.{arith}
use mathlib.Core.Bool.{Bool, true, false, ◌&&◌, ◌||◌}
use mathlib.Core.List.{List, [], ◌∷◌}
use lib.ListN.{get_or}
use lib.Dec.{leb}
use borrow.Author.Tests.{leb-true}
use Rattle.strip_records.specs.declared.kind.Kind.{Kind}
use Rattle.strip_records.specs.declared.kind.Kind.TheVariants.{Pan1, Pic1, Txt1, Wnd1, Ali1}
use Rattle.flat_records.specs.Records.{kind_of}
use Rattle.flat_records.specs.Below.{Checked, good, scanned, or_scanned, Bound, checked_by, base_bounds, picture_bounds, font_bounds, shadow_bounds, window_bounds, alignment_bounds, own_checked, words_checked}
use Rattle.flat_records.specs.Unread.{Range, ranges_read, Agree, AgreeAll, SameRead}
use Rattle.std.proofs.Common.{Ok, Err}

-- ---- a bound in ranges

abbrev inside : Range → Bound → Bool
inside r (from, count, bound) = leb r.from from && leb (from + count) r.to

abbrev inside_any : List Range → Bound → Bool
inside_any [] b = false
inside_any (r ∷ rs) b = inside r b || inside_any rs b

abbrev all_inside : List Range → List Bound → Bool
all_inside rs [] = true
all_inside rs (b ∷ bs) = inside_any rs b && all_inside rs bs

never : {A : Type 0} → false ≡ true → A
never e = let z : ◌≡◌ {A = ℕ} 0 1 = cc in absurd (omega arith)

pub both_true : (s t : Bool) → s && t ≡ true → (s ≡ true) × (t ≡ true)
both_true true t e = (refl, e)
both_true false t e = never e

-- ---- a test that looks only there

module _ (w v : List ℕ) where
  scan_same : (r : Range) → Agree w v r → (p n bound : ℕ) → r.from ≤ p → p + n ≤ r.to → scanned w p n bound ≡ scanned v p n bound
  unfolding scanned
  scan_same r g p zero bound h k = refl
  scan_same r g p (suc n) bound h k = rw (g.same p h (omega arith), scan_same r g (p + 1) n bound (omega arith) (omega arith))

  abbrev Same : Bound → Type 0
  Same (from, count, bound) = scanned w from count bound ≡ scanned v from count bound

  span_by : (r : Range) (rs : List Range) (b : Bound) → Agree w v r → (inside_any rs b ≡ true → Same b) → (t : Bool) → inside r b ≡ t → t || inside_any rs b ≡ true → Same b
  span_by r rs (from, count, bound) g others true e f =
      let (x, y) = both_true (leb r.from from) (leb (from + count) r.to) e in
      scan_same r g from count bound (leb-true r.from from x) (leb-true (from + count) r.to y)
  span_by r rs b g others false e f = others f

  span_same : (rs : List Range) (b : Bound) → AgreeAll rs w v → inside_any rs b ≡ true → Same b
  span_same [] b g e = never e
  span_same (r ∷ rs) b (g, gs) e = span_by r rs b g (span_same rs b gs) (inside r b) refl e

  or_same : (c : Checked) (from count bound : ℕ) → Same (from, count, bound) → or_scanned c w from count bound ≡ or_scanned c v from count bound
  unfolding or_scanned
  or_same (Ok u) from count bound e = e
  or_same (Err b) from count bound e = refl

  checked_same : (rs : List Range) (bs : List Bound) → AgreeAll rs w v → all_inside rs bs ≡ true → (c d : Checked) → c ≡ d → checked_by c bs w ≡ checked_by d bs v
  checked_same rs [] g e c d f = f
  checked_same rs ((from, count, bound) ∷ bs) g e c d f =
      let (x, y) = both_true (inside_any rs (from, count, bound)) (all_inside rs bs) e in
      checked_same rs bs g y _ _ (ap (λ (k : Checked). or_scanned k w from count bound) f ∙ or_same d from count bound (span_same rs (from, count, bound) g x))

  -- ---- of a record

  kind_same : (k : Kind) → AgreeAll (ranges_read k) w v → get_or w 0 0 ≡ get_or v 0 0
  kind_same Pan1 (g, gs) = g.same 0 (omega arith) (omega arith)
  kind_same Pic1 (g, gs) = g.same 0 (omega arith) (omega arith)
  kind_same Txt1 (g, gs) = g.same 0 (omega arith) (omega arith)
  kind_same Wnd1 (g, gs) = g.same 0 (omega arith) (omega arith)
  kind_same Ali1 (g, gs) = g.same 0 (omega arith) (omega arith)

  whole_same : (k : Kind) → AgreeAll (ranges_read k) w v → own_checked k (checked_by good base_bounds w) w ≡ own_checked k (checked_by good base_bounds v) v
  whole_same Pan1 g = checked_same (ranges_read Pan1) base_bounds g refl good good refl
  whole_same Pic1 g = checked_same (ranges_read Pic1) picture_bounds g refl _ _ (checked_same (ranges_read Pic1) base_bounds g refl good good refl)
  whole_same Txt1 g =
      checked_same (ranges_read Txt1) shadow_bounds g refl _ _ (checked_same (ranges_read Txt1) font_bounds g refl _ _ (checked_same (ranges_read Txt1) base_bounds g refl good good refl))
  whole_same Wnd1 g = checked_same (ranges_read Wnd1) window_bounds g refl _ _ (checked_same (ranges_read Wnd1) base_bounds g refl good good refl)
  whole_same Ali1 g = checked_same (ranges_read Ali1) alignment_bounds g refl _ _ (checked_same (ranges_read Ali1) base_bounds g refl good good refl)

  pub kinds_same : SameRead w v → kind_of (get_or w 0 0) ≡ kind_of (get_or v 0 0)
  kinds_same g = ap kind_of (kind_same (kind_of (get_or w 0 0)) g.words)

  -- THE LAW
  pub checked_alike : SameRead w v → words_checked w ≡ words_checked v
  unfolding words_checked
  checked_alike g = whole_same (kind_of (get_or w 0 0)) g.words ∙ ap (λ (k : Kind). own_checked k (checked_by good base_bounds v) v) (kinds_same g)
