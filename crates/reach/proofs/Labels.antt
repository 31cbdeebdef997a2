-- A label up to its NUL.
use mathlib.Core.Path.{◌≡◌, refl, sym, ap, subst}
use Prim.Native.Nat.{ℕ, suc, ◌+◌, ◌<◌}
use native.Mathlib.Omega.{arith}
use mathlib.Core.Bool.{Bool, true, false, cond}
use mathlib.Core.List.{List, [], ◌∷◌}
use lib.ListN.{length, take, drop, length-drop}
use lib.Dec.{eqb, ltb}
use borrow.Author.Tests.{ltb-true, lt-ltb}
use Rattle.core_read.specs.Bytes.{part}
use Rattle.core_read.specs.Taken.{advanced, up_to_nul, label_taken, Place}
use Rattle.core_read.specs.declared.cursor.Cursor.{Cursor}
use Rattle.core_read.specs.declared.error.Refusal.{Refusal}
use Rattle.core_read.specs.declared.error.Refusal.TheVariants.{NoNul}
use Rattle.text_box_caption.specs.Caption.{label_of}
use Rattle.text_box_caption.proofs.Captions.{inside}
use Rattle.reach.specs.Agrees.{Agrees}
use Rattle.reach.proofs.Steps.{Some, told, so, part_same, took}
use Rattle.std.specs.Prelude.{Err, Ok}
use Rattle.std.specs.Prelude as Prelude

-- lists that are the same up to the first NUL of one have the same bytes before it
upto_step : (t : Bool) (b : ℕ) (x y : List ℕ) → (ih : take (suc (length (up_to_nul x))) x ≡ take (suc (length (up_to_nul x))) y → length (up_to_nul x) < length x → up_to_nul y ≡ up_to_nul x)
    → take (length (cond t [] (b ∷ up_to_nul x))) x ≡ take (length (cond t [] (b ∷ up_to_nul x))) y → length (cond t [] (b ∷ up_to_nul x)) < suc (length x)
    → cond t [] (b ∷ up_to_nul y) ≡ cond t [] (b ∷ up_to_nul x)
upto_step true b x y ih e h = refl
upto_step false b x y ih e h = ap (λ (l : List ℕ). b ∷ l) (ih e (omega arith))

upto_same : (x y : List ℕ) → take (suc (length (up_to_nul x))) x ≡ take (suc (length (up_to_nul x))) y → length (up_to_nul x) < length x → up_to_nul y ≡ up_to_nul x
unfolding up_to_nul
upto_same [] y e h = absurd (omega arith)
upto_same (b ∷ x) [] e h = cc
upto_same (b ∷ x) (c ∷ y) e h =
    let f : b ≡ c = cc in
    let g : take (length (cond (eqb b 0) [] (b ∷ up_to_nul x))) x ≡ take (length (cond (eqb b 0) [] (b ∷ up_to_nul x))) y = cc in
    rw (← f) (upto_step (eqb b 0) b x y (upto_same x y) g h)

-- the bytes of a label of so many bytes at a place, the same of both
abbrev pub LabelStands : List ℕ → List ℕ → ℕ → ℕ → Type 0
LabelStands s s' at long = label_of s' (Prelude.Some (record { place = at; length = long })) ≡ label_of s (Prelude.Some (record { place = at; length = long }))

module _ (lo r : ℕ) (s s' : List ℕ) (a : Agrees lo r s s') where
  label_at : (c d : Cursor) (b : Bool) → ltb (c.pos + length (up_to_nul (drop c.pos s))) (length s) ≡ b → (label_taken s (Ok c)).then ≡ Ok d
      → Some lo r (length s) (Ok c) d ((label_taken s' (Ok c) ≡ label_taken s (Ok c)) × LabelStands s s' c.pos (length (label_taken s (Ok c)).value))
  unfolding label_taken part
  label_at c d true e h =
      let k : ℕ = length (up_to_nul (drop c.pos s)) in
      let fit : c.pos + k < length s = ltb-true (c.pos + k) (length s) e in
      let i : ◌≡◌ {A = Place} (Ok (advanced c (k + 1))) (Ok d) = rw e at h in
      let j : advanced c (k + 1) ≡ d = cc in
      let x = took lo r s s' a (k + 1) c d ((label_taken s' (Ok c) ≡ label_taken s (Ok c)) × LabelStands s s' c.pos (length (label_taken s (Ok c)).value)) (omega arith) (omega arith) j (λ l m.
      let q : take (suc k) (drop c.pos s) ≡ take (suc k) (drop c.pos s') = sym (part_same lo r s s' a (suc k) c.pos l (omega arith) (omega arith)) in
      let v : up_to_nul (drop c.pos s') ≡ up_to_nul (drop c.pos s) = upto_same (drop c.pos s) (drop c.pos s') q (omega (arith, length-drop c.pos s)) in
      let z : ltb (c.pos + k) (length s') ≡ true = lt-ltb (c.pos + k) (length s') (omega (arith, a.long)) in
      let same : label_taken s' (Ok c) ≡ label_taken s (Ok c) = rw (v, e, z) in
      let stands : LabelStands s s' c.pos (length (label_taken s (Ok c)).value) =
      rw (e, inside s c.pos k (omega arith) (omega arith), inside s' c.pos k (omega (arith, a.long)) (omega (arith, a.long)))
      (part_same lo r s s' a k c.pos l (omega arith) (omega arith)) in
      (same, stands)) in
      told x (λ (b : Cursor). Unit {0}) tt
  label_at c d false e h =
      let i : ◌≡◌ {A = Place} (Err (NoNul c.pos)) (Ok d) = rw e at h in
      let z : ◌≡◌ {A = ℕ} 0 1 = cc in absurd (omega arith)

  label_refused : (why : Refusal) → (label_taken s (Err why)).then ≡ Err why
  unfolding label_taken
  label_refused why = refl

  pub label_went : (p : Place) (d : Cursor) → (label_taken s p).then ≡ Ok d
      → Some lo r (length s) p d ((label_taken s' p ≡ label_taken s p) × ((c : Cursor) → p ≡ Ok c → LabelStands s s' c.pos (length (label_taken s p).value)))
  label_went (Ok c) d h =
      so (label_at c d _ refl h) (λ u. (
        u.0,
        λ b e.
            let f : c ≡ b = cc in
            subst (λ (x : Cursor). LabelStands s s' x.pos (length (label_taken s (Ok c)).value)) f u.1,
      ))
  label_went (Err why) d h = let z : ◌≡◌ {A = ℕ} 0 1 = cc (label_refused why) in absurd (omega arith)
