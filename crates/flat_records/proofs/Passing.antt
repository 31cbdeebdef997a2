-- Words that stand at a place, each below its bound, pass the test for bounds.
use mathlib.Core.Path.{◌≡◌, refl, ap, ◌∙◌, subst}
use Prim.Native.Nat.{ℕ, zero, suc, ◌+◌, ◌<◌}
use native.Mathlib.Omega.{arith}
use mathlib.Core.Bool.{Bool, true, false}
use mathlib.Core.List.{List, [], ◌∷◌, ◌++◌}
use lib.ListN.{length, get_or}
use lib.Dec.{ltb}
use borrow.Author.Tests.{lt-ltb}
use Rattle.core_read.proofs.Back.{Holds, split}
use Rattle.ui2d.specs.Typed.{TypedColor, TypedColors, color_at}
use Rattle.ui2d.specs.declared.Color4u8.{Color4u8}
use Rattle.strip_records.specs.Typed.{Below}
use Rattle.flat.specs.Words.{flag_word, color_words, colors_words}
use Rattle.flat_records.specs.Below.{Checked, good, scanned, or_scanned, Bound, checked_by}
use Rattle.flat_records.proofs.BackParts.{nth}
use Rattle.flat_records.proofs.SameParts.{Scanned, AllScanned, not_bad}

-- ---- numbers below a bound

pub record Small (bound : ℕ) (xs : List ℕ) : Type 0 where
  pub all : Below bound xs

pub none : {bound : ℕ} → Small bound []
unfolding Below
none = record { all = tt }

pub more : {bound x : ℕ} {xs : List ℕ} → x < bound → Small bound xs → Small bound (x ∷ xs)
unfolding Below
more h k = record { all = (h, k.all) }

below_both : (bound : ℕ) (xs ys : List ℕ) → Below bound xs → Below bound ys → Below bound (xs ++ ys)
unfolding Below
below_both bound [] ys h k = k
below_both bound (x ∷ xs) ys (h, hs) k = (h, below_both bound xs ys hs k)

pub both : {bound : ℕ} {xs ys : List ℕ} → Small bound xs → Small bound ys → Small bound (xs ++ ys)
both {bound} {xs} {ys} h k = record { all = below_both bound xs ys h.all k.all }

pub flag_below : (b : Bool) → flag_word b < 2
flag_below true = omega arith
flag_below false = omega arith

pub color_below : (v : Color4u8) → TypedColor v → Small 256 (color_words v)
color_below v t = more t.r (more t.g (more t.b (more t.a none)))

pub colors_below : (vs : List Color4u8) → TypedColors vs → Small 256 (colors_words vs)
colors_below vs t =
    both (color_below (color_at vs 0) t.top_left)
    (both (color_below (color_at vs 1) t.top_right)
    (both (color_below (color_at vs 2) t.bottom_left) (color_below (color_at vs 3) t.bottom_right)))

-- ---- words that stand at a place

held_all : {w : List ℕ} {p : ℕ} (bound : ℕ) (xs : List ℕ) → Below bound xs → Holds w p xs → scanned w p (length xs) bound ≡ good
unfolding scanned Below
held_all bound [] h a = refl
held_all {w} {p = p} bound (x ∷ xs) (h, k) a =
    let e : p + 0 ≡ p = omega arith in
    let f = subst (λ (n : ℕ). get_or w n 0 ≡ x) e (nth (x ∷ xs) a 0 x (omega arith) refl) in
    let (a₁, a₂) = split (x ∷ []) xs 1 refl a in
    rw (f, lt-ltb x bound h) (held_all {p = p + 1} bound xs k a₂)

pub held : {w : List ℕ} {p n bound : ℕ} (xs : List ℕ) → length xs ≡ n → Small bound xs → Holds w p xs → Scanned w p n bound
held {w} {p} {n} {bound} xs e h a = record { good = subst (λ (k : ℕ). scanned w p k bound ≡ good) e (held_all bound xs h.all a) }

-- one run after the other
joined_all : (w : List ℕ) (p n m bound : ℕ) → scanned w p n bound ≡ good → scanned w (p + n) m bound ≡ good → scanned w p (n + m) bound ≡ good
unfolding scanned
joined_all w p zero m bound s t =
    let e : p + 0 ≡ p = omega arith in
    let f : 0 + m ≡ m = omega arith in
    rw f (subst (λ (k : ℕ). scanned w k m bound ≡ good) e t)
joined_all w p (suc n) m bound s t =
    let e : suc n + m ≡ suc (n + m) = omega arith in
    let f : p + suc n ≡ p + 1 + n = omega arith in
    let (x, y) = not_bad (ltb (get_or w p 0) bound) (scanned w (p + 1) n bound) p s in
    rw (e, x) (joined_all w (p + 1) n m bound y (subst (λ (k : ℕ). scanned w k m bound ≡ good) f t))

pub joined : {w : List ℕ} {p n m bound : ℕ} → Scanned w p n bound → Scanned w (p + n) m bound → Scanned w p (n + m) bound
joined {w} {p} {n} {m} {bound} s t = record { good = joined_all w p n m bound s.good t.good }

-- ---- the bounds of a list

or_passed : {w : List ℕ} {p n bound : ℕ} → Scanned w p n bound → or_scanned good w p n bound ≡ good
unfolding or_scanned
or_passed s = s.good

pub all_passed : (bs : List Bound) (w : List ℕ) → AllScanned bs w → checked_by good bs w ≡ good
all_passed [] w t = refl
all_passed ((from, count, bound) ∷ bs) w (s, t) = ap (λ (c : Checked). checked_by c bs w) (or_passed s) ∙ all_passed bs w t
