-- The laws of words that are stored one after the other, and of bytes that are read back.
use mathlib.Core.Path.{◌≡◌, refl, sym, ap, ◌∙◌}
use Prim.Native.Nat.{ℕ, zero, suc, ◌+◌, ◌-◌, ◌≤◌, ◌<◌}
use native.Mathlib.Nat.{add-zero}
use native.Mathlib.Omega.{arith}
use native.Mathlib.Numerals.{add-one}
use mathlib.Core.List.{List, [], ◌∷◌, ◌++◌}
use lib.ListN.{length, take, drop, set, get_or, length-set}
use lib.Seq.{drop-drop, take_all, take-suc-set}
use Rattle.core_read.specs.Bytes.{splice}
use Rattle.core_write.proofs.Puts.{length_splice, splice_append, splice_cut, take_more}
use Rattle.std.proofs.Common.{append_assoc}
use borrow.Rule.Slice.PartMut.{put_mid}
use Rattle.flat.specs.Words.{Stored, byte_at, bytes_at}

-- words stored after others are the two together
pub next : {o o₁ o₂ : List ℕ} {p q : ℕ} {a b : List ℕ} → p + length a ≡ q → Stored o p a o₁ → Stored o₁ q b o₂ → Stored o p (a ++ b) o₂
next {o} {p = p} {a = a} {b = b} e h k =
    record { long = k.long ∙ h.long; words = cc (splice_append o p a b) }

pub stored_as : {o o₁ : List ℕ} {p : ℕ} {a b : List ℕ} → a ≡ b → Stored o p a o₁ → Stored o p b o₁
stored_as e h = rw (← e) h

pub stored_nothing : (o : List ℕ) (p : ℕ) → Stored o p [] o
unfolding splice
stored_nothing o p = record { long = refl; words = refl }

-- one word
pub stored_one : (o : List ℕ) (p v : ℕ) → Stored o p (v ∷ []) (set o p v)
unfolding splice
stored_one o p v = record { long = length-set o p v; words = refl }

-- the words of a slice, put where a part of o stood
pub stored_run : (o : List ℕ) (p : ℕ) (e : List ℕ) {m : List ℕ} → p + length e ≤ length o → m ≡ e → Stored o p e (put_mid p (p + length e - p) o m)
stored_run o p e {m} h k =
    let n : p + length e - p ≡ length e = omega arith in
    let cut : put_mid p (p + length e - p) o m ≡ splice o p e =
    rw (n, k) (ap (λ (l : List ℕ). take p o ++ (e ++ l)) (drop-drop (length e) p o) ∙ sym (splice_cut o p e h ∙ append_assoc (take p o) e (drop (p + length e) o))) in
    record { long = ap length cut ∙ length_splice o p e; words = cut }

-- ---- a loop that copies a list into a run as long as it

-- the first i of r are those of s
pub record Copied (s r : List ℕ) (i : ℕ) : Type 0 where
  pub within : i ≤ length s
  pub long : length r ≡ length s
  pub front : take i r ≡ take i s

pub copied_none : (s r : List ℕ) → length r ≡ length s → Copied s r 0
copied_none s r h = record { within = omega arith; long = h; front = refl }

pub copied_more : (s : List ℕ) {r : List ℕ} {i : ℕ} → i < length s → Copied s r i → Copied s (set r i (get_or s i 0)) (i + 1)
copied_more s {r} {i} h k =
    let below : i < length r = omega (arith, k.long) in
    record {
      within = omega arith;
      long = length-set r i (get_or s i 0) ∙ k.long;
      front = rw add-one (take-suc-set r i (get_or s i 0) below ∙ ap (λ (l : List ℕ). l ++ (get_or s i 0 ∷ [])) k.front) ∙ sym (take_more s i h);
    }

pub copied_all : (s : List ℕ) {r : List ℕ} {i : ℕ} → length s ≤ i → Copied s r i → r ≡ s
copied_all s {r} {i} h k = sym (take_all i r (omega (arith, k.long))) ∙ k.front ∙ take_all i s h

-- ---- a loop that reads bytes back

-- the first i of out are read
pub record Loaded (w : List ℕ) (p : ℕ) (o o₁ : List ℕ) (i : ℕ) : Type 0 where
  pub within : i ≤ length o
  pub long : length o₁ ≡ length o
  pub front : take i o₁ ≡ bytes_at w p i

bytes_more : (w : List ℕ) (p i : ℕ) → bytes_at w p (suc i) ≡ bytes_at w p i ++ (byte_at w (p + i) ∷ [])
unfolding bytes_at
bytes_more w p zero = ap (λ (k : ℕ). byte_at w k ∷ []) (sym (add-zero p))
bytes_more w p (suc i) =
    let e : p + 1 + i ≡ p + suc i = omega arith in
    ap (λ (l : List ℕ). byte_at w p ∷ l) (bytes_more w (p + 1) i ∙ ap (λ (k : ℕ). bytes_at w (p + 1) i ++ (byte_at w k ∷ [])) e)

pub loaded_none : (w : List ℕ) (p : ℕ) (o : List ℕ) → Loaded w p o o 0
unfolding bytes_at
loaded_none w p o = record { within = omega arith; long = refl; front = refl }

pub loaded_more : (w : List ℕ) (p : ℕ) {o o₁ : List ℕ} {i : ℕ} → i < length o → Loaded w p o o₁ i → Loaded w p o (set o₁ i (byte_at w (p + i))) (i + 1)
loaded_more w p {o} {o₁} {i} h k =
    let below : i < length o₁ = omega (arith, k.long) in
    record {
      within = omega arith;
      long = length-set o₁ i (byte_at w (p + i)) ∙ k.long;
      front = rw add-one (take-suc-set o₁ i (byte_at w (p + i)) below ∙ ap (λ (l : List ℕ). l ++ (byte_at w (p + i) ∷ [])) k.front ∙ sym (bytes_more w p i));
    }

pub loaded_all : (w : List ℕ) (p : ℕ) {o o₁ : List ℕ} {i : ℕ} → length o ≤ i → Loaded w p o o₁ i → o₁ ≡ bytes_at w p (length o)
loaded_all w p {o} {o₁} {i} h k =
    let e : i ≡ length o = omega (arith, k.within) in
    sym (take_all i o₁ (omega (arith, k.long))) ∙ k.front ∙ ap (bytes_at w p) e
