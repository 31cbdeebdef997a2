-- Words that are below their bounds: what the test for bounds tells, and the words of what is read from them.
use mathlib.Core.Path.{◌≡◌, refl, sym, ap, ◌∙◌, subst}
use Prim.Native.Nat.{ℕ, zero, suc, ◌+◌, ◌%◌, ◌<◌}
use native.Mathlib.Nat.{mod-eq_of_lt}
use native.Mathlib.Omega.{arith}
use mathlib.Core.Bool.{Bool, true, false, cond}
use mathlib.Core.List.{List, [], ◌∷◌}
use lib.ListN.{get_or}
use lib.Seq.{set-get_or}
use lib.Dec.{ltb}
use borrow.Author.Tests.{ltb-true}
use Rattle.core_read.specs.Bytes.{splice, bits_of, signed_of}
use Rattle.core_read.specs.Laws.{bits_signed}
use Rattle.flags.specs.Packed.{flag_of}
use Rattle.flags.specs.Enums.{horizontal_of, horizontal_number, vertical_of, vertical_number, alignment_of, alignment_number, window_kind_of, window_kind_number}
use Rattle.flat.specs.Words.{flag_word, bytes_at}
use Rattle.flat_records.specs.Records.{kind_of, kind_number}
use Rattle.flat_records.specs.Below.{Checked, good, bad, scanned, or_scanned, Bound, checked_by}
use Rattle.std.proofs.Common.{Ok, Err}

-- n words from p on
unfoldable pub run : List ℕ → ℕ → ℕ → List ℕ
run w p zero = []
run w p (suc n) = get_or w p 0 ∷ run w (p + 1) n

-- stored where they stand, they change nothing
pub run_again : (w : List ℕ) (p n : ℕ) → splice w p (run w p n) ≡ w
unfolding run splice
run_again w p zero = refl
run_again w p (suc n) = ap (λ (l : List ℕ). splice l (p + 1) (run w (p + 1) n)) (set-get_or w p 0) ∙ run_again w (p + 1) n

-- ---- what the test tells

never : (i : ℕ) → bad i ≡ good → ⊥
never i e = let z : ◌≡◌ {A = ℕ} 0 1 = cc in omega arith

pub not_bad : (t : Bool) (c : Checked) (i : ℕ) → cond t c (bad i) ≡ good → (t ≡ true) × (c ≡ good)
not_bad true c i e = (refl, e)
not_bad false c i e = absurd (never i e)

-- a run that was scanned
pub record Scanned (w : List ℕ) (p n bound : ℕ) : Type 0 where
  pub good : scanned w p n bound ≡ good

below_at : (w : List ℕ) (p n bound : ℕ) → scanned w p n bound ≡ good → (j : ℕ) → j < n → get_or w (p + j) 0 < bound
unfolding scanned
below_at w p zero bound s j h = absurd (omega arith)
below_at w p (suc n) bound s zero h =
    let e : p + 0 ≡ p = omega arith in
    subst (λ (k : ℕ). get_or w k 0 < bound) (sym e) (ltb-true (get_or w p 0) bound (not_bad (ltb (get_or w p 0) bound) (scanned w (p + 1) n bound) p s).0)
below_at w p (suc n) bound s (suc j) h =
    let e : p + 1 + j ≡ p + suc j = omega arith in
    let k : j < n = omega arith in
    subst (λ (i : ℕ). get_or w i 0 < bound) e (below_at w (p + 1) n bound (not_bad (ltb (get_or w p 0) bound) (scanned w (p + 1) n bound) p s).1 j k)

pub below : {w : List ℕ} {p n bound : ℕ} → Scanned w p n bound → (j : ℕ) → j < n → get_or w (p + j) 0 < bound
below {w} {p} {n} {bound} s j h = below_at w p n bound s.good j h

or_good : (c : Checked) (w : List ℕ) (p n bound : ℕ) → or_scanned c w p n bound ≡ good → (c ≡ good) × Scanned w p n bound
unfolding or_scanned
or_good (Ok u) w p n bound e = (refl, record { good = e })
or_good (Err b) w p n bound e = absurd (never b.index e)

abbrev pub AllScanned : List Bound → List ℕ → Type 0
AllScanned [] w = Unit {0}
AllScanned ((from, count, bound) ∷ bs) w = Scanned w from count bound × AllScanned bs w

pub all_good : (c : Checked) (bs : List Bound) (w : List ℕ) → checked_by c bs w ≡ good → (c ≡ good) × AllScanned bs w
all_good c [] w e = (e, tt)
all_good c ((from, count, bound) ∷ bs) w e =
    let (d, more) = all_good (or_scanned c w from count bound) bs w e in
    let (first, s) = or_good c w from count bound d in
    (first, (s, more))

-- ---- a word, read and written again

pub flag_word_lem : (n : ℕ) → n < 2 → flag_word (flag_of n) ≡ n
flag_word_lem zero h = refl
flag_word_lem (suc zero) h = refl
flag_word_lem (suc (suc n)) h = absurd (omega arith)

pub horizontal_word : (n : ℕ) → n < 3 → horizontal_number (horizontal_of (n % 256)) ≡ n
horizontal_word zero h = refl
horizontal_word (suc zero) h = refl
horizontal_word (suc (suc zero)) h = refl
horizontal_word (suc (suc (suc n))) h = absurd (omega arith)

pub vertical_word : (n : ℕ) → n < 3 → vertical_number (vertical_of (n % 256)) ≡ n
vertical_word zero h = refl
vertical_word (suc zero) h = refl
vertical_word (suc (suc zero)) h = refl
vertical_word (suc (suc (suc n))) h = absurd (omega arith)

pub window_kind_word : (n : ℕ) → n < 3 → window_kind_number (window_kind_of (n % 256)) ≡ n
window_kind_word zero h = refl
window_kind_word (suc zero) h = refl
window_kind_word (suc (suc zero)) h = refl
window_kind_word (suc (suc (suc n))) h = absurd (omega arith)

pub alignment_word : (n : ℕ) → n < 4 → alignment_number (alignment_of (n % 256)) ≡ n
alignment_word zero h = refl
alignment_word (suc zero) h = refl
alignment_word (suc (suc zero)) h = refl
alignment_word (suc (suc (suc zero))) h = refl
alignment_word (suc (suc (suc (suc n)))) h = absurd (omega arith)

pub kind_word : (n : ℕ) → n < 5 → kind_number (kind_of n) ≡ n
kind_word zero h = refl
kind_word (suc zero) h = refl
kind_word (suc (suc zero)) h = refl
kind_word (suc (suc (suc zero))) h = refl
kind_word (suc (suc (suc (suc zero)))) h = refl
kind_word (suc (suc (suc (suc (suc n))))) h = absurd (omega arith)

pub side_word : (n : ℕ) → n < 65536 → bits_of (signed_of (n % 65536)) ≡ n
side_word n h = rw (mod-eq_of_lt h) (bits_signed n h)

pub bytes_words : (w : List ℕ) (p n : ℕ) → ((j : ℕ) → j < n → get_or w (p + j) 0 < 256) → bytes_at w p n ≡ run w p n
unfolding run bytes_at
bytes_words w p zero h = refl
bytes_words w p (suc n) h =
    let e : p + 0 ≡ p = omega arith in
    let k = subst (λ (i : ℕ). get_or w i 0 < 256) e (h 0 (omega arith)) in
    let more : (j : ℕ) → j < n → get_or w (p + 1 + j) 0 < 256 = λ j b. let g : p + suc j ≡ p + 1 + j = omega arith in subst (λ (i : ℕ). get_or w i 0 < 256) g (h (suc j) (omega arith)) in
    rw (mod-eq_of_lt k, bytes_words w (p + 1) n more)
