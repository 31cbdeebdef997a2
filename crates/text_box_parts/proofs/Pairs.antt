-- Pairs of the numbers of two columns, as a read fills them.
use mathlib.Core.Path.{◌≡◌, refl, sym, ap, ◌∙◌}
use mathlib.Core.List.{List, [], ◌∷◌, ◌++◌, append_assoc}
use Prim.Native.Nat.{ℕ, suc, ◌+◌, ◌*◌, ◌≤◌, ◌<◌}
use native.Mathlib.Numerals.{add-one}
use native.Mathlib.Omega.{arith}
use lib.ListN.{length, drop, get_or, set, length-set, length-append}
use lib.Seq.{drop-cons, set_at}
use Rattle.core_read.specs.Bytes.{number_at}
use Rattle.core_read.specs.Taken.{over}
use Rattle.core_read.specs.Lists.{numbers_at}
use Rattle.core_read.specs.declared.cursor.ByteOrder.{ByteOrder}
use Rattle.core_read.proofs.Lists.{length_numbers, numbers_suc}
use Rattle.text_box_parts.specs.Parts.{pairs}

pub length_pairs : (a b : List ℕ) → length a ≡ length b → length (pairs a b) ≡ 2 * length a
unfolding pairs
length_pairs [] b e = refl
length_pairs (x ∷ a) [] e = absurd (omega arith)
length_pairs (x ∷ a) (y ∷ b) e =
    let h : length a ≡ length b = omega arith in
    omega (arith, length_pairs a b h)

pairs_more : (a b : List ℕ) (x y : ℕ) → length a ≡ length b → pairs (a ++ (x ∷ [])) (b ++ (y ∷ [])) ≡ pairs a b ++ (x ∷ y ∷ [])
unfolding pairs
pairs_more [] [] x y e = refl
pairs_more [] (v ∷ b) x y e = absurd (omega arith)
pairs_more (u ∷ a) [] x y e = absurd (omega arith)
pairs_more (u ∷ a) (v ∷ b) x y e = ap (λ (l : List ℕ). u ∷ v ∷ l) (pairs_more a b x y (omega arith))

-- the first i numbers from a place on, and one more
numbers_more : (order : ByteOrder) (w n : ℕ) (s : List ℕ) (at : ℕ)
    → numbers_at order w (n + 1) s at ≡ numbers_at order w n s at ++ (number_at order w s (at + w * n) ∷ [])
numbers_more order w n s at = rw add-one (numbers_suc order w n s at)

-- two stores after a front of 2i numbers
two_stores : (p out₀ : List ℕ) (i x y : ℕ) → length p ≡ 2 * i → 2 * i + 1 < length out₀
    → set (set (p ++ drop (2 * i) out₀) (2 * i) x) (2 * i + 1) y ≡ (p ++ (x ∷ y ∷ [])) ++ drop (2 * (i + 1)) out₀
two_stores p out₀ i x y e h =
    let d : drop (2 * i) out₀ ≡ get_or out₀ (2 * i) 0 ∷ get_or out₀ (2 * i + 1) 0 ∷ drop (2 * (i + 1)) out₀ =
    let k : suc (suc (2 * i)) ≡ 2 * (i + 1) = omega arith in
    drop-cons out₀ (2 * i) 0 (omega arith)
    ∙ rw (add-one, ← k) (ap (λ (l : List ℕ). get_or out₀ (2 * i) 0 ∷ l) (drop-cons out₀ (suc (2 * i)) 0 (omega arith)))
    in
    let f : length (p ++ (x ∷ [])) ≡ 2 * i + 1 = length-append p (x ∷ []) ∙ omega (arith, e) in
    rw (d, set_at p (get_or out₀ (2 * i) 0) (get_or out₀ (2 * i + 1) 0 ∷ drop (2 * (i + 1)) out₀) x (2 * i) e)
    (ap (λ (l : List ℕ). set l (2 * i + 1) y) (sym (append_assoc p (x ∷ []) (get_or out₀ (2 * i + 1) 0 ∷ drop (2 * (i + 1)) out₀)))
    ∙ set_at (p ++ (x ∷ [])) (get_or out₀ (2 * i + 1) 0) (drop (2 * (i + 1)) out₀) y (2 * i + 1) f
    ∙ simp append_assoc)

-- the first i pairs of two columns of n numbers
abbrev pub paired : ByteOrder → List ℕ → ℕ → ℕ → ℕ → List ℕ
paired order s at n i = pairs (numbers_at order 4 i s at) (numbers_at order 4 i s (at + 4 * n))

length_paired : (order : ByteOrder) (s : List ℕ) (at n i : ℕ) → length (paired order s at n i) ≡ 2 * i
length_paired order s at n i =
    length_pairs (numbers_at order 4 i s at) (numbers_at order 4 i s (at + 4 * n)) (length_numbers order 4 i s at ∙ sym (length_numbers order 4 i s (at + 4 * n)))
    ∙ ap (λ (k : ℕ). 2 * k) (length_numbers order 4 i s at)

-- after i turns they stand at the front
pub record Paired (order : ByteOrder) (s : List ℕ) (at n : ℕ) (out₀ out : List ℕ) (i : ℕ) : Type 0 where
  pub within : i ≤ n
  pub long : length out ≡ length out₀
  pub front : out ≡ paired order s at n i ++ drop (2 * i) out₀

pub paired_none : (order : ByteOrder) (s : List ℕ) (at n : ℕ) (out : List ℕ) → Paired order s at n out out 0
unfolding numbers_at pairs
paired_none order s at n out = record { within = omega arith; long = refl; front = refl }

module _ (order : ByteOrder) (s : List ℕ) (at n : ℕ) (out₀ out : List ℕ) (i : ℕ) (f : Paired order s at n out₀ out i) where
  pub paired_more : (x y : ℕ) → i < n → 2 * n ≤ length out₀ → x ≡ number_at order 4 s (at + 4 * i) → y ≡ number_at order 4 s (at + 4 * n + 4 * i)
      → Paired order s at n out₀ (set (set out (2 * i) x) (2 * i + 1) y) (i + 1)
  paired_more x y h k e g = record {
    within = omega arith;
    long = simp length-set f.long;
    front = rw f.front (
        two_stores (paired order s at n i) out₀ i x y (length_paired order s at n i) (omega arith)
        ∙ rw (numbers_more order 4 i s at, numbers_more order 4 i s (at + 4 * n), ← e, ← g)
        (ap (λ (l : List ℕ). l ++ drop (2 * (i + 1)) out₀)
        (sym (pairs_more (numbers_at order 4 i s at) (numbers_at order 4 i s (at + 4 * n)) x y
        (length_numbers order 4 i s at ∙ sym (length_numbers order 4 i s (at + 4 * n))))))
        );
  }

  pub paired_all : n ≤ i → out ≡ over (paired order s at n n) out₀
  paired_all h =
      let e : i ≡ n = omega (arith, f.within) in
      rw (length_paired order s at n n) (rw e at f.front)
