-- The computed test of UTF-8 agrees with the Standard's definition.
use mathlib.Core.Path.{◌≡◌, refl, ap, sym, ◌∙◌}
use mathlib.Core.Logic.{◌↔◌}
use mathlib.Core.List.{List, [], ◌∷◌, ◌++◌}
use mathlib.Core.Bool.{Bool, true, false, false≢true, ◌||◌}
use Prim.Native.Nat.{ℕ, zero, suc, ◌<◌}
use native.Mathlib.Omega.{arith}
use lib.ListN.{length, get_or, take, drop, length-append, take-append-drop, get_or-append}
use lib.Seq.{length-take-le, get_or-take, drop-append_seam}
use lib.Dec.{eqb}
use borrow.Author.Tests.{eqb-true}
use Rattle.std.specs.Prelude.{Option, Some, None}
use Rattle.std.specs.Option.{option_map_or}
use Rattle.utf8.specs.Utf8.{table, Sequence, WellFormed, none, more, takes, row_of, sequence, walk, well_formed}
use Rattle.utf8.proofs.Rows.{takes_bounds, row_of_listed, row_count, row_is, fits_at, fits_all, sequence_good, counted_of}
use Rattle.utf8.proofs.Walk.{well_formed_none, well_formed_step}

-- ---- the bytes that the test counts are a sequence of the table

pub sequence_is : (l : List ℕ) (n : ℕ) → sequence l ≡ Some n → Sequence (take n l)
sequence_is l n s =
    let c = counted_of l n s in
    let e : length (take n l) ≡ n = length-take-le n l c.within in
    record {
      row = c.row;
      listed = row_of_listed table (get_or l 0 0) c.row c.found;
      long = e ∙ c.long;
      within = λ j k. let m : j < n = omega (arith, k, e) in rw (get_or-take n l j 0 m) ((takes_bounds c.row j (get_or l j 0)).0 (fits_at c.row l n j c.fit m));
    }

-- ---- a sequence of the table is what the test counts

pub sequence_counts : (q rest : List ℕ) → Sequence q → sequence (q ++ rest) ≡ Some (length q)
sequence_counts q rest v =
    let c = row_count v.row v.listed in
    let z : 0 < length q = omega (arith, c.0, v.long) in
    let g : (j : ℕ) → j < length q → takes v.row j (get_or (q ++ rest) j 0) ≡ true =
    λ j h. rw (get_or-append q rest 0 j h) ((takes_bounds v.row j (get_or q j 0)).1 (v.within j h)) in
    let r : row_of table (get_or (q ++ rest) 0 0) ≡ Some v.row = row_is v.row _ v.listed (g 0 z) in
    sequence_good (q ++ rest) v.row r (omega (arith, length-append q rest, v.long)) (fits_all v.row (q ++ rest) v.row.count (λ j h. g j (omega (arith, h, v.long))))
    ∙ ap Some (sym v.long)

-- ---- the whole list

empty : (l : List ℕ) → length l ≡ 0 → WellFormed l
empty [] e = none
empty (x ∷ l) e = absurd (omega (arith, e))

or_cases : {A : Type 0} (a b : Bool) → (a || b) ≡ true → (a ≡ true → A) → (b ≡ true → A) → A
or_cases true b e f g = f refl
or_cases false b e f g = g e

option_true : (o : Option ℕ) (f : ℕ → Bool) → option_map_or f o false ≡ true → (n : ℕ) × (o ≡ Some n) × (f n ≡ true)
option_true None f t = absurd (false≢true t)
option_true (Some n) f t = (n, refl, t)

walk_sound : (f : ℕ) (l : List ℕ) → walk f l ≡ true → WellFormed l
unfolding walk
walk_sound zero l e = empty l (eqb-true _ _ e)
walk_sound (suc f) l e =
    or_cases (eqb (length l) 0) (option_map_or (λ n. walk f (drop n l)) (sequence l) false) e
    (λ z. empty l (eqb-true _ _ z))
    (λ t. let (n, s, v) = option_true (sequence l) (λ n. walk f (drop n l)) t in
    let w : WellFormed (take n l ++ drop n l) = more (sequence_is l n s) (walk_sound f (drop n l) v) in
    rw take-append-drop at w)

complete : (l : List ℕ) → WellFormed l → well_formed l ≡ true
complete l none = well_formed_none
complete l (more {q} {rest} v w) = well_formed_step (q ++ rest) (length q) (sequence_counts q rest v) ∙ rw drop-append_seam (complete rest w)

-- the test passes exactly at what the Standard calls well-formed
pub standard : (l : List ℕ) → (well_formed l ≡ true) ↔ WellFormed l
unfolding well_formed
standard l = (walk_sound (length l) l, complete l)
