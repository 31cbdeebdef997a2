-- The computed answer for UTF-16 agrees with the Standard's definition.
use mathlib.Core.Path.{◌≡◌, refl, ap, sym, ◌∙◌, subst}
use mathlib.Core.Logic.Iff
use mathlib.Core.Logic.{◌↔◌, ◌⊎◌, inl, inr, ⊎_elim}
use mathlib.Core.List.{List, [], ◌∷◌, ◌++◌}
use mathlib.Core.Bool.{Bool, true, false, true≢false, false≢true}
use Prim.Native.Nat.{ℕ, suc, ◌+◌, ◌-◌, ◌≤◌, ◌<◌}
use native.Mathlib.Omega.{arith}
use native.Mathlib.Nat.{add-zero}
use native.Mathlib.Numerals.{add-one}
use lib.ListN.{length, take, drop, take-append-drop}
use lib.Seq.{length-take-le, take-length}
use lib.Dec.{ltb}
use borrow.Author.Tests.{ltb-true, ltb-false}
use Rattle.std.specs.Prelude.{Option, Some, None}
use Rattle.utf16.specs.Utf16.{HighSurrogate, LowSurrogate, NoSurrogate, WellFormed16, none, single, pair, FirstUnpaired, high_surrogate, low_surrogate, scan, utf16_of, is_well_formed, well_formed16}
use Rattle.utf8.proofs.Tests.{pick, not_so, between}
use Rattle.utf16.proofs.Scan.{scan_out, scan_low, scan_end, scan_lone}

-- ---- the surrogates

low_is : (u : ℕ) → (low_surrogate u ≡ true) ↔ LowSurrogate u
unfolding low_surrogate
low_is u = between 0xDC00 u 0xDFFF

high_is : (u : ℕ) → (high_surrogate u ≡ true) ↔ HighSurrogate u
unfolding high_surrogate
high_is u = between 0xD800 u 0xDBFF

not_low : (u : ℕ) → (LowSurrogate u → ⊥) → low_surrogate u ≡ false
not_low u h = not_so (low_surrogate u) (λ t. h ((low_is u).0 t))

not_high : (u : ℕ) → (HighSurrogate u → ⊥) → high_surrogate u ≡ false
not_high u h = not_so (high_surrogate u) (λ t. h ((high_is u).0 t))

low_false : (u : ℕ) → low_surrogate u ≡ false → LowSurrogate u → ⊥
low_false u e h = true≢false (sym ((low_is u).1 h) ∙ e)

lt_or_le : (a b : ℕ) → (a < b) ⊎ (b ≤ a)
lt_or_le a b = go (ltb a b) refl
  where
    go : (t : Bool) → ltb a b ≡ t → (a < b) ⊎ (b ≤ a)
    go true e = inl (ltb-true a b e)
    go false e = inr (ltb-false a b e)

single_of : (u : ℕ) → low_surrogate u ≡ false → high_surrogate u ≡ false → NoSurrogate u
single_of u e f =
    ⊎_elim inl
    (λ h. ⊎_elim
    (λ k. absurd (true≢false (sym ((high_is u).1 (h, omega (arith, k))) ∙ f)))
    (λ k. ⊎_elim (λ m. absurd (low_false u e (k, omega (arith, m)))) (λ m. inr (omega (arith, m))) (lt_or_le u 0xE000))
    (lt_or_le u 0xDC00))
    (lt_or_le u 0xD800)

outside : (a c u : ℕ) → 0xD800 ≤ a → c ≤ 0xDFFF → NoSurrogate u → (a ≤ u) × (u ≤ c) → ⊥
outside a c u p q (inl k) h = omega (arith, p, k, h.0)
outside a c u p q (inr k) h = omega (arith, q, k, h.1)

single_not_low : (u : ℕ) → NoSurrogate u → low_surrogate u ≡ false
single_not_low u s = not_low u (outside 0xDC00 0xDFFF u (omega arith) (omega arith) s)

single_not_high : (u : ℕ) → NoSurrogate u → high_surrogate u ≡ false
single_not_high u s = not_high u (outside 0xD800 0xDBFF u (omega arith) (omega arith) s)

high_not_low : (u : ℕ) → HighSurrogate u → low_surrogate u ≡ false
high_not_low u h = not_low u (λ k. omega (arith, h.1, k.0))

-- ---- what a scan of l, after i other units, gives

Outcome : ℕ → List ℕ → Option ℕ → Type 0
Outcome i l None = WellFormed16 l
Outcome i l (Some m) = (n : ℕ) × (m ≡ i + n) × FirstUnpaired l n

after_single : (i u : ℕ) (l : List ℕ) (o : Option ℕ) → NoSurrogate u → Outcome (i + 1) l o → Outcome i (u ∷ l) o
unfolding Outcome
after_single i u l None s w = single s w
after_single i u l (Some m) s (n, e, f) =
    (suc n, omega (arith, e), record { within = omega (arith, f.within); good = single s f.good; lone = f.lone })

after_pair : (i h u : ℕ) (l : List ℕ) (o : Option ℕ) → HighSurrogate h → LowSurrogate u → Outcome (i + 1 + 1) l o → Outcome i (h ∷ u ∷ l) o
unfolding Outcome
after_pair i h u l None a b w = pair a b w
after_pair i h u l (Some m) a b (n, e, f) =
    (suc (suc n), omega (arith, e), record { within = omega (arith, f.within); good = pair a b f.good; lone = f.lone })

unless_low : (i u : ℕ) (l : List ℕ) (b : Bool) → high_surrogate u ≡ b → low_surrogate u ≡ false
    → ((h : ℕ) → HighSurrogate h → Outcome i (h ∷ l) (scan true (i + 1) l)) → Outcome (i + 1) l (scan false (i + 1) l)
    → Outcome i (u ∷ l) (scan b (i + 1) l)
unless_low i u l true e t f o = f u ((high_is u).0 e)
unless_low i u l false e t f o = after_single i u l _ (single_of u t e) o

-- the scan of l, and that of l after a high surrogate h
outcome : (l : List ℕ) (i : ℕ) → Outcome i l (scan false i l) × ((h : ℕ) → HighSurrogate h → Outcome i (h ∷ l) (scan true (i + 1) l))
unfolding Outcome scan
outcome [] i = (
  none,
  λ h a. (0, omega arith, record { within = omega arith; good = none; lone = inr (a, λ b. omega (arith, b.0)) }),
)
outcome (u ∷ l) i = (
  pick (Outcome i (u ∷ l)) (low_surrogate u) (Some i) (scan (high_surrogate u) (i + 1) l)
      (λ t. (0, omega arith, record { within = omega arith; good = none; lone = inl ((low_is u).0 t) }))
      (λ t. unless_low i u l (high_surrogate u) refl t (outcome l i).1 (outcome l (i + 1)).0),
  λ h a.
      pick (Outcome i (h ∷ u ∷ l)) (low_surrogate u) (scan false (i + 1 + 1) l) (Some (i + 1 - 1))
      (λ t. after_pair i h u l (scan false (i + 1 + 1) l) a ((low_is u).0 t) (outcome l (i + 1 + 1)).0)
      (λ t. (0, omega arith, record { within = omega arith; good = none; lone = inr (a, low_false u t) })),
)

-- ---- the scan passes what is well-formed

passes : (i : ℕ) (p r : List ℕ) → WellFormed16 p → scan false i (p ++ r) ≡ scan false (i + length p) r
unfolding scan
passes i p r none = rw add-zero
passes i p r (single {u} {l} s w) =
    rw (single_not_low u s, single_not_high u s) (passes (i + 1) l r w ∙ ap (λ (k : ℕ). scan false k r) (omega arith))
passes i p r (pair {h} {u} {l} a b w) =
    rw (high_not_low h a, (high_is h).1 a, (low_is u).1 b) (passes (i + 1 + 1) l r w ∙ ap (λ (k : ℕ). scan false k r) (omega arith))

passes_to : (l : List ℕ) (n : ℕ) → n ≤ length l → WellFormed16 (take n l) → utf16_of l ≡ scan false n (drop n l)
unfolding utf16_of
passes_to l n h w =
    let e : length (take n l) ≡ n = length-take-le n l h in
    ap (scan false 0) (sym (take-append-drop n l)) ∙ passes 0 (take n l) (drop n l) w ∙ ap (λ (k : ℕ). scan false k (drop n l)) (omega (arith, e))

stops_at : (l : List ℕ) (n : ℕ) → FirstUnpaired l n → scan false n (drop n l) ≡ Some n
stops_at l n f =
    ⊎_elim
    (λ a. scan_low l n f.within ((low_is _).1 a))
    (λ b. let x = high_not_low _ b.0 in
    let y = (high_is _).1 b.0 in
    ⊎_elim
    (λ k. scan_lone l n f.within x y k (not_low _ (rw add-one b.1)))
    (λ k. scan_end l n f.within x y k)
    (lt_or_le (n + 1) (length l)))
    f.lone

-- ---- the theorems

-- the answer is None exactly at what the Standard calls well-formed
pub standard16 : (l : List ℕ) → (utf16_of l ≡ None) ↔ WellFormed16 l
unfolding utf16_of Outcome
standard16 l = (
  λ e. subst (Outcome 0 l) e (outcome l 0).0,
  λ w. passes_to l (length l) (omega arith) (rw take-length w) ∙ scan_out l (length l) (omega arith),
)

-- the answer is Some with n exactly where the first unpaired surrogate has n units before it
pub unpaired16 : (l : List ℕ) (n : ℕ) → (utf16_of l ≡ Some n) ↔ FirstUnpaired l n
unfolding utf16_of Outcome
unpaired16 l n = (
  λ e. let o : Outcome 0 l (Some n) = subst (Outcome 0 l) e (outcome l 0).0 in
      let k : o.0 ≡ n = omega (arith, o.1) in
      rw k at o.2,
  λ f. passes_to l n (omega (arith, f.within)) f.good ∙ stops_at l n f,
)

is_well_formed_lem : (o : Option ℕ) → (is_well_formed o ≡ true) ↔ (o ≡ None)
is_well_formed_lem None = (λ e. refl, λ e. refl)
is_well_formed_lem (Some n) = (λ e. absurd (false≢true e), λ e. ap is_well_formed e)

-- the same of the Bool
pub well_formed16_lem : (l : List ℕ) → (well_formed16 l ≡ true) ↔ WellFormed16 l
well_formed16_lem l = Iff.trans (is_well_formed_lem (utf16_of l)) (standard16 l)
