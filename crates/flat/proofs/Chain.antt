-- Stores into a record, one after the other.
use mathlib.Core.Path.{◌≡◌, refl, sym, ap, ◌∙◌}
use Prim.Native.Nat.{ℕ, ◌+◌, ◌<◌}
use native.Mathlib.Omega.{arith}
use mathlib.Core.List.{List, [], ◌∷◌, ◌++◌}
use lib.ListN.{length, take, get_or}
use lib.Seq.{length-take-le}
use Rattle.core_write.proofs.Puts.{take_more}
use Rattle.flat.specs.Lent.{Stores}
use Rattle.flat.specs.declared.words.WordsMut.{WordsMut}
use Rattle.flat.proofs.Storing.{next as after, stored_as, stored_nothing}

-- words stored after others are the two together
pub next : {a b c : WordsMut} {p q : ℕ} {e f : List ℕ} → p + length e ≡ q → Stores a b p e → Stores b c q f → Stores a c p (e ++ f)
next n h k = record { same = k.same ∙ h.same; stored = after n h.stored k.stored }

pub stores_as : {a b : WordsMut} {p : ℕ} {e f : List ℕ} → e ≡ f → Stores a b p e → Stores a b p f
stores_as e h = record { same = h.same; stored = stored_as e h.stored }

pub stores_nothing : (a : WordsMut) (p : ℕ) → Stores a a p []
stores_nothing a p = record { same = refl; stored = stored_nothing _ p }

-- a kind's own words after its number and the base
pub stores_own : {a b c : WordsMut} {k : ℕ} {base e : List ℕ} → Stores a b 0 ((k ∷ []) ++ base) → length base ≡ 61 → Stores b c 62 e → Stores a c 0 ((k ∷ []) ++ (base ++ e))
stores_own h n x = next (omega (arith, n)) h x

-- a loop that stores the numbers of a list
pub stores_more : {a b c : WordsMut} (p i : ℕ) (s : List ℕ) → i < length s → Stores a b p (take i s) → Stores b c (p + i) (get_or s i 0 ∷ []) → Stores a c p (take (i + 1) s)
stores_more p i s h k x =
    stores_as (sym (take_more s i h)) (next (ap (λ (k : ℕ). p + k) (length-take-le i s (omega arith))) k x)
