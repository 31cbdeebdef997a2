-- Columns of a list of pairs: written as two, and read back.
use mathlib.Core.Path.{◌≡◌, refl, sym, ap, ◌∙◌}
use mathlib.Core.List.{List, [], ◌∷◌, ◌++◌, append-nil}
use Prim.Native.Nat.{ℕ, zero, suc, ◌+◌, ◌*◌, ◌/◌, ◌%◌, ◌≤◌, ◌<◌}
use native.Mathlib.Numerals.{add-one}
use native.Mathlib.Omega.{arith}
use lib.ListN.{length, take, drop, get_or}
use lib.Seq.{drop-cons, take_all, length-take-le}
use Rattle.std.proofs.lemmas.List.{get_or-take, get_or-drop}
use Rattle.std.specs.Simd.{first_chunks}
use Rattle.ui2d.proofs.Chunks.{chunk_at}
use Rattle.core_read.specs.Bytes.{bytes_of, bytes_of_all}
use Rattle.core_read.specs.declared.cursor.ByteOrder.{ByteOrder}
use Rattle.core_write.proofs.Puts.{all_append}
use Rattle.text_box_parts.specs.Parts.{pairs, column}

column_suc : (l : List ℕ) (k n : ℕ) → column l k (suc n) ≡ column l k n ++ (get_or l (k + 2 * n) 0 ∷ [])
unfolding column
column_suc l k zero = ap (λ (j : ℕ). get_or l j 0 ∷ []) (omega arith)
column_suc l k (suc n) =
    let e : k + 2 + 2 * n ≡ k + 2 * suc n = omega arith in
    ap (λ (t : List ℕ). get_or l k 0 ∷ t) (rw (← e) (column_suc l (k + 2) n))

column_more : (l : List ℕ) (k n : ℕ) → column l k (n + 1) ≡ column l k n ++ (get_or l (k + 2 * n) 0 ∷ [])
column_more l k n = rw add-one (column_suc l k n)

-- one number more of a column, as bytes: number k of the two i of the first n
pub column_bytes : (order : ByteOrder) (l : List ℕ) (k i n : ℕ) (twos : List (List ℕ)) → twos ≡ first_chunks 2 (length (take (2 * n) l) / 2) (take (2 * n) l)
    → i < n → 2 * n ≤ length l → k ≤ 1
    → bytes_of_all order 4 (column l k i) ++ bytes_of order 4 (get_or (get_or twos i []) k 0) ≡ bytes_of_all order 4 (column l k (i + 1))
unfolding bytes_of_all
column_bytes order l k i n twos cut h room small =
    let front : List ℕ = take (2 * n) l in
    let long : length front ≡ 2 * n = length-take-le (2 * n) l room in
    let two : get_or twos i [] ≡ take 2 (drop (2 * i) front) =
    ap (λ (t : List (List ℕ)). get_or t i []) cut ∙ chunk_at 2 (length front / 2) i front [] (omega (arith, long)) in
    let place : 2 * i + k ≡ k + 2 * i = omega arith in
    let number : get_or (get_or twos i []) k 0 ≡ get_or l (k + 2 * i) 0 =
    ap (λ (t : List ℕ). get_or t k 0) two
    ∙ get_or-take 2 (drop (2 * i) front) k 0 (omega arith)
    ∙ get_or-drop (2 * i) front k 0
    ∙ get_or-take (2 * n) l (2 * i + k) 0 (omega arith)
    ∙ ap (λ (j : ℕ). get_or l j 0) place
    in
    rw (number, column_more, all_append) (ap (λ (t : List ℕ). bytes_of_all order 4 (column l k i) ++ t) (sym (append-nil (bytes_of order 4 (get_or l (k + 2 * i) 0)))))

pub length_column : (l : List ℕ) (k n : ℕ) → length (column l k n) ≡ n
unfolding column
length_column l k zero = refl
length_column l k (suc n) = ap suc (length_column l (k + 2) n)

-- the two columns of a list of pairs, side by side, are the list
pub columns_back : (l : List ℕ) (n k : ℕ) → k + 2 * n ≤ length l → pairs (column l k n) (column l (k + 1) n) ≡ take (2 * n) (drop k l)
unfolding column pairs
columns_back l zero k h = refl
columns_back l (suc n) k h =
    let e : 2 * suc n ≡ suc (suc (2 * n)) = omega arith in
    let f : k + 1 + 2 ≡ k + 2 + 1 = omega arith in
    let g : suc (suc k) ≡ k + 2 = omega arith in
    let a : k < length l = omega arith in
    let b : suc k < length l = omega arith in
    rw (e, drop-cons l k 0 a, drop-cons l (suc k) 0 b, f, add-one k, g)
    (ap (λ (t : List ℕ). get_or l k 0 ∷ get_or l (suc k) 0 ∷ t) (columns_back l n (k + 2) (omega arith)))

pub lines_back : (l : List ℕ) → length l % 2 ≡ 0 → pairs (column l 0 (length l / 2)) (column l 1 (length l / 2)) ≡ l
lines_back l e = columns_back l (length l / 2) 0 (omega arith) ∙ take_all (2 * (length l / 2)) l (omega arith)
