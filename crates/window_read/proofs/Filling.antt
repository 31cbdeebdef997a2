-- A loop that puts a list at the front of another, one element a store: what holds after i stores, with rest still to come.
use mathlib.Core.Path.{◌≡◌, sym, ap, ◌∙◌}
use borrow.Rule.Slice.PartMut.{put_mid}
use mathlib.Core.List.{List, [], ◌∷◌, ◌++◌, append_assoc}
use Prim.Native.Nat.{ℕ, zero, suc, ◌+◌, ◌≤◌, ◌<◌}
use native.Mathlib.Nat.{le_of_suc-le-suc, not-suc-le-zero}
use native.Mathlib.Numerals.{add-one}
use native.Mathlib.Omega.{arith}
use lib.ListN.{length, take, drop, set, replicate, length-set, length-drop, length-replicate}
use lib.Seq.{take_all, drop-nil, length-take-le}
use Rattle.std.proofs.lemmas.List.{take_at, drop_at, drop-drop, take-append-drop}

pub record Filling (all out₀ out : List ℕ) (i : ℕ) (rest : List ℕ) : Type 0 where
  pub within : i ≤ length all
  pub long : length out ≡ length out₀
  pub front : out ≡ take i all ++ drop i out₀
  pub left : drop i all ≡ rest

-- a store takes i elements to one more
store : (all out : List ℕ) (i x : ℕ) (rest : List ℕ) → drop i all ≡ x ∷ rest → i < length out
    → set (take i all ++ drop i out) i x ≡ take (suc i) all ++ drop (suc i) out
store [] out i x rest e h =
    let z : ◌≡◌ {A = ℕ} 0 1 = cc (drop-nil {A = ℕ} i) in
    absurd (omega arith)
store (a ∷ all) [] i x rest e h = absurd (not-suc-le-zero h)
store (a ∷ all) (b ∷ out) zero x rest e h =
    let same : x ≡ a = cc in
    ap (λ (y : ℕ). y ∷ out) same
store (a ∷ all) (b ∷ out) (suc i) x rest e h = ap (λ (l : List ℕ). a ∷ l) (store all out i x rest e (le_of_suc-le-suc h))

-- what is left after one more
next : (all : List ℕ) (i x : ℕ) (rest : List ℕ) → drop i all ≡ x ∷ rest → drop (suc i) all ≡ rest
next [] i x rest e =
    let z : ◌≡◌ {A = ℕ} 0 1 = cc (drop-nil {A = ℕ} i) in
    absurd (omega arith)
next (a ∷ all) zero x rest e = cc
next (a ∷ all) (suc i) x rest e = next all i x rest e

pub filling_more : (all out₀ out : List ℕ) (i x : ℕ) (rest : List ℕ) → Filling all out₀ out i (x ∷ rest) → i < length out₀
    → Filling all out₀ (set out i x) (i + 1) rest
filling_more all out₀ out i x rest v h =
    let k : length all ≡ i + length (x ∷ rest) = omega (arith, v.within, sym (length-drop i all) ∙ ap length v.left) in
    record {
      within = omega arith;
      long = length-set out i x ∙ v.long;
      front = rw (v.front, add-one) (store all out₀ i x rest v.left h);
      left = rw add-one (next all i x rest v.left);
    }

pub filling_end : (all out₀ out : List ℕ) (i : ℕ) → Filling all out₀ out i [] → out ≡ all ++ drop (length all) out₀
filling_end all out₀ out i v =
    let k : i ≡ length all = omega (arith, v.within, sym (length-drop i all) ∙ ap length v.left) in
    v.front ∙ rw k (ap (λ (l : List ℕ). l ++ drop (length all) out₀) (take_all (length all) all le_refl'))
  where
    le_refl' : length all ≤ length all
    le_refl' = omega arith

-- zeros for all that is left, put at once
pub filling_blank : (all out₀ out ys : List ℕ) (i m p k : ℕ) → Filling all out₀ out i (replicate m 0) → i + m ≤ length out₀ → p ≡ i → k ≡ m
    → ys ≡ replicate (length (take k (drop p out))) 0 → put_mid p k out ys ≡ all ++ drop (length all) out₀
filling_blank all out₀ out ys i m p k v room e f z =
    let n : length all ≡ i + m = omega (arith, v.within, sym (length-drop i all) ∙ ap length v.left, length-replicate {A = ℕ} m 0) in
    let h : length (take i all) ≡ i = length-take-le i all v.within in
    let a : take i out ≡ take i all = rw v.front (take_at (take i all) (drop i out₀) i h) in
    let b : drop i out ≡ drop i out₀ = rw v.front (drop_at (take i all) (drop i out₀) i h) in
    let d : drop m (drop i out₀) ≡ drop (length all) out₀ = rw n (drop-drop m i out₀) in
    let w : length (take m (drop i out₀)) ≡ m = length-take-le m (drop i out₀) (omega (arith, room, length-drop i out₀)) in
    rw (z, e, f, a, b, w, d, ← v.left)
    (sym (append_assoc (take i all) (drop i all) (drop (length all) out₀)) ∙ ap (λ (l : List ℕ). l ++ drop (length all) out₀) (take-append-drop i all))
