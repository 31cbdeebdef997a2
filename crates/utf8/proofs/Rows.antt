-- Laws of the rows: which row takes a byte, and when a row takes the bytes of a list.
use mathlib.Core.Path.{◌≡◌, refl, ap, sym, ◌∙◌}
use mathlib.Core.Logic.{◌↔◌, ⊎_elim}
use mathlib.Core.List.Memᴰ
use mathlib.Core.List.{List, [], ◌∷◌, Memᴰ}
use mathlib.Core.Bool.{Bool, true, false, ◌&&◌, and-false, true≢false}
use Prim.Native.Nat.{ℕ, zero, suc, ◌+◌, ◌≤◌, ◌<◌}
use native.Mathlib.Omega.{arith}
use native.Mathlib.Numerals.{add-one}
use native.Mathlib.Nat.{eq-or-lt_of_le}
use lib.ListN.{length, get_or}
use lib.Dec.{leb, ltb}
use borrow.Author.Tests.{lt-leb, le-leb, leb-true, ltb-true}
use Rattle.utf8.specs.declared.Row.{Row}
use Rattle.std.specs.Prelude.{Option, Some, None, option_and_then}
use Rattle.std.proofs.lemmas.Option.{cond_some}
use Rattle.utf8.specs.Utf8.{table, takes, row_of, fits, sequence_by, sequence}
use Rattle.utf8.proofs.Tests.{pick, and_left, and_right, and_both, not_so, between}

-- ---- a place of a row

pub takes_bounds : (row : Row) (j b : ℕ) → (takes row j b ≡ true) ↔ ((get_or row.low j 0 ≤ b) × (b ≤ get_or row.high j 0))
unfolding takes
takes_bounds row j b = between (get_or row.low j 0) b (get_or row.high j 0)

-- ---- the row that takes a byte

pub row_of_takes : (rs : List Row) (b : ℕ) (row : Row) → row_of rs b ≡ Some row → takes row 0 b ≡ true
unfolding row_of
row_of_takes [] b row e = cc
row_of_takes (r ∷ rs) b row e =
    pick (λ (o : Option Row). o ≡ Some row → takes row 0 b ≡ true) (takes r 0 b) (Some r) (row_of rs b) (λ t f. cc) (λ t f. row_of_takes rs b row f) e

pub row_of_listed : (rs : List Row) (b : ℕ) (row : Row) → row_of rs b ≡ Some row → Memᴰ row rs
unfolding row_of
row_of_listed [] b row e = cc
row_of_listed (r ∷ rs) b row e =
    pick (λ (o : Option Row). o ≡ Some row → Memᴰ row (r ∷ rs)) (takes r 0 b) (Some r) (row_of rs b)
    (λ t f. Memᴰ.head (cc))
    (λ t f. Memᴰ.tail (row_of_listed rs b row f))
    e

-- ---- tests that are computed over the whole table

every : (Row → Bool) → List Row → Bool
every f [] = true
every f (r ∷ rs) = f r && every f rs

every_at : (f : Row → Bool) (rs : List Row) (r : Row) → every f rs ≡ true → Memᴰ r rs → f r ≡ true
unfolding every
every_at f [] r t m = absurd (Memᴰ.not-nil m)
every_at f (x ∷ rs) r t m =
    ⊎_elim
    (λ e. ap f e ∙ and_left (f x) _ t)
    (λ n. every_at f rs r (and_right (f x) _ t) n)
    (Memᴰ.cases_cons m)

-- a row has one to four places
counted : Row → Bool
counted r = ltb 0 r.count && ltb r.count 5

table_counted : every counted table ≡ true
unfolding every counted table
table_counted = refl

pub row_count : (r : Row) → Memᴰ r table → (0 < r.count) × (r.count < 5)
unfolding counted
row_count r m =
    let t : counted r ≡ true = every_at counted table r table_counted m in
    (ltb-true _ _ (and_left (ltb 0 r.count) _ t), ltb-true _ _ (and_right (ltb 0 r.count) _ t))

-- the first bytes of a row lie below those of the rows that follow
above : Row → Row → Bool
above r s = ltb (get_or r.high 0 0) (get_or s.low 0 0)

apart : List Row → Bool
apart [] = true
apart (r ∷ rs) = every (above r) rs && apart rs

table_apart : apart table ≡ true
unfolding apart every above table
table_apart = refl

-- so the row whose first place takes a byte is the one that the search finds
row_found : (rs : List Row) (r : Row) (b : ℕ) → apart rs ≡ true → Memᴰ r rs → takes r 0 b ≡ true → row_of rs b ≡ Some r
unfolding row_of apart above
row_found [] r b t m k = absurd (Memᴰ.not-nil m)
row_found (x ∷ rs) r b t m k =
    ⊎_elim
    (λ e. let q : takes x 0 b ≡ true = rw e at k in rw q (ap Some (sym e)))
    (λ n.
    let u = (takes_bounds r 0 b).0 k in
    let v : get_or x.high 0 0 < get_or r.low 0 0 = ltb-true _ _ (every_at (above x) rs r (and_left (every (above x) rs) _ t) n) in
    let q : takes x 0 b ≡ false = not_so (takes x 0 b) (λ f. let w = (takes_bounds x 0 b).0 f in omega (arith, u.0, v, w.1)) in
    rw q (row_found rs r b (and_right (every (above x) rs) _ t) n k))
    (Memᴰ.cases_cons m)

pub row_is : (r : Row) (b : ℕ) → Memᴰ r table → takes r 0 b ≡ true → row_of table b ≡ Some r
row_is r b = row_found table r b table_apart

-- ---- the bytes of a list

pub fits_at : (row : Row) (l : List ℕ) (n j : ℕ) → fits row l n ≡ true → j < n → takes row j (get_or l j 0) ≡ true
unfolding fits
fits_at row l zero j e h = absurd (omega (arith, h))
fits_at row l (suc n) j e h =
    let p : j ≤ n = omega (arith, h) in
    ⊎_elim
    (λ q. rw q (and_right (fits row l n) _ e))
    (λ k. fits_at row l n j (and_left (fits row l n) _ e) k)
    (eq-or-lt_of_le p)

pub fits_all : (row : Row) (l : List ℕ) (n : ℕ) → ((j : ℕ) → j < n → takes row j (get_or l j 0) ≡ true) → fits row l n ≡ true
unfolding fits
fits_all row l zero f = refl
fits_all row l (suc n) f = and_both _ _ (fits_all row l n (λ j h. f j (omega (arith, h)))) (f n (omega arith))

pub fits_more : (row : Row) (l : List ℕ) (j : ℕ) → fits row l j ≡ true → takes row j (get_or l j 0) ≡ true → fits row l (j + 1) ≡ true
unfolding fits
fits_more row l j e f = rw add-one (and_both _ _ e f)

pub fits_not : (row : Row) (l : List ℕ) (n j : ℕ) → j < n → takes row j (get_or l j 0) ≡ false → fits row l n ≡ false
fits_not row l n j h e = not_so (fits row l n) (λ f. true≢false (sym (fits_at row l n j f h) ∙ e))

-- ---- the sequence at the start of a list

pub sequence_none : (l : List ℕ) → row_of table (get_or l 0 0) ≡ None → sequence l ≡ None
unfolding sequence
sequence_none l e = rw e

module _ (l : List ℕ) (row : Row) (e : row_of table (get_or l 0 0) ≡ Some row) where
  -- its row has one to four places, and the first takes the first byte
  pub row_small : (0 < row.count) × (row.count < 5)
  row_small = row_count row (row_of_listed table (get_or l 0 0) row e)

  pub fits_first : fits row l 1 ≡ true
  unfolding fits
  fits_first = row_of_takes table (get_or l 0 0) row e

  pub sequence_short : length l < row.count → sequence l ≡ None
  unfolding sequence sequence_by
  sequence_short h = rw (e, lt-leb _ _ h)

  pub sequence_good : row.count ≤ length l → fits row l row.count ≡ true → sequence l ≡ Some row.count
  unfolding sequence sequence_by
  sequence_good h f = rw (e, le-leb _ _ h, f)

  -- a place that does not take its byte
  pub sequence_bad : (j : ℕ) → j < row.count → takes row j (get_or l j 0) ≡ false → sequence l ≡ None
  unfolding sequence sequence_by
  sequence_bad j h t = rw (e, fits_not row l row.count j h t, and-false)

-- what is known where n bytes of l are a sequence
pub record Counted (l : List ℕ) (n : ℕ) : Type 0 where
  pub row : Row
  pub found : row_of table (get_or l 0 0) ≡ Some row
  pub long : n ≡ row.count
  pub within : n ≤ length l
  pub fit : fits row l n ≡ true

counted_by : (l : List ℕ) (n : ℕ) (o : Option Row) → row_of table (get_or l 0 0) ≡ o → option_and_then (λ row. sequence_by row l) o ≡ Some n → Counted l n
unfolding sequence_by
counted_by l n None f e = cc
counted_by l n (Some row) f e =
    let (t, k) = cond_some (leb row.count (length l) && fits row l row.count) row.count n e in
    record {
      row = row;
      found = f;
      long = sym k;
      within = omega (arith, k, leb-true _ _ (and_left (leb row.count (length l)) _ t));
      fit = rw (← k) (and_right (leb row.count (length l)) _ t);
    }

pub counted_of : (l : List ℕ) (n : ℕ) → sequence l ≡ Some n → Counted l n
unfolding sequence
counted_of l n e = counted_by l n (row_of table (get_or l 0 0)) refl e

-- a sequence is no empty one, and ends within the list
pub sequence_some : (l : List ℕ) (n : ℕ) → sequence l ≡ Some n → (0 < n) × (n ≤ length l)
sequence_some l n e =
    let c = counted_of l n e in
    (omega (arith, c.long, (row_small l c.row c.found).0), c.within)
