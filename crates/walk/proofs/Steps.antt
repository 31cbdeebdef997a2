-- The step of a walk, and that a walk ends.
use mathlib.Core.Path.{◌≡◌, refl, sym, ap, ◌∙◌, subst}
use mathlib.Core.Logic.{◌⊎◌, inl, inr}
use Prim.Native.Nat.{ℕ, ◌+◌, ◌-◌, ◌≤◌, ◌<◌}
use native.Mathlib.Omega.{arith}
use mathlib.Core.List.{List}
use lib.ListN.{length}
use Rattle.core_read.specs.declared.cursor.ByteOrder.{ByteOrder}
use Rattle.strip_read.specs.Read.{read_section}
use Rattle.strip_header.specs.declared.Section.TheVariants as Sections
use Rattle.strip_records.specs.Whole.{Lists}
use Rattle.strip_read.specs.declared.read.SectionRead.{SectionRead}
use Rattle.strip_read.proofs.Moves.{Onward, section_on}
use Rattle.walk.specs.Walk.{place_after, step_at, moved_on}
use Rattle.walk.specs.declared.Step.{Step}
use Rattle.walk.specs.declared.Walk.{Walk}
use Rattle.std.specs.Prelude.{Err, Ok}
use Rattle.strip_header.specs.Header.{SectionAnswer}

abbrev step_of : SectionRead → ℕ → Step
step_of r n = record { answer = r.answer; «record» = r.«record»; place = n }

-- a section read with the place after its answer is the step
step_made : (order : ByteOrder) (s : List ℕ) (p : ℕ) (l : Lists) (r : SectionRead) (n : ℕ) → r ≡ read_section order s p l → n ≡ place_after p r.answer
    → step_of r n ≡ step_at order s p l
unfolding step_at
step_made order s p l r n e f = ap (step_of r) f ∙ ap (λ (x : SectionRead). step_of x (place_after p x.answer)) e

-- and so is a section read by a walk that has moved on
pub next_made : (w v : Walk) (l : Lists) (r : SectionRead) → r ≡ read_section w.source.order w.source.«data».now w.place l → v ≡ moved_on w l
    → step_of r v.place ≡ step_at w.source.order w.source.«data».now w.place l
unfolding moved_on
next_made w v l r e f =
    let place : v.place ≡ place_after w.place r.answer = ap (λ (x : Walk). x.place) f ∙ ap (λ (x : SectionRead). place_after w.place x.answer) (sym e) in
    step_made w.source.order w.source.«data».now w.place l r v.place e place

-- ---- a walk of n bytes at p stays, or moves on by a section within them

abbrev pub Moved : ℕ → ℕ → ℕ → Type 0
Moved n p q = (q ≡ p) ⊎ ((p + 8 ≤ q) × (q ≤ n))

after_moved : (n p : ℕ) (x : SectionAnswer) → Onward n p x → Moved n p (place_after p x)
unfolding Onward place_after
after_moved n p (Ok Sections.End) h = inl refl
after_moved n p (Ok (Sections.Passed next)) h = inr h
after_moved n p (Ok (Sections.Pane end next reach)) h = inr (h.0, h.1)
after_moved n p (Err why) h = inl refl

-- A WALK ENDS: each step stays where it is, or moves on by 8 bytes or more, within the strip
pub step_moved : (order : ByteOrder) (s : List ℕ) (p : ℕ) (l : Lists) → Moved (length s) p (step_at order s p l).place
unfolding step_at
step_moved order s p l = after_moved (length s) p (read_section order s p l).answer (section_on order s p l)

-- so what is left of the strip is a measure of a loop that walks
less : (n p q : ℕ) → p < q → Moved n p q → n - q < n - p
less n p q g (inl k) = omega (arith, g, k)
less n p q g (inr (k, m)) = omega (arith, g, k, m)

pub step_less : (order : ByteOrder) (s : List ℕ) (p : ℕ) (l : Lists) (r : Step) → r ≡ step_at order s p l → p < r.place → length s - r.place < length s - p
step_less order s p l r e h = less (length s) p r.place h (subst (λ (x : Step). Moved (length s) p x.place) (sym e) (step_moved order s p l))

-- the same of a loop over `Walk::next`, which keeps its walk: it is moved on to the step's place, over the same strip
pub moved_place : (w : Walk) (l : Lists) → (moved_on w l).place ≡ (step_at w.source.order w.source.«data».now w.place l).place
unfolding moved_on step_at
moved_place w l = refl

pub next_less : (w v : Walk) (l : Lists) → v ≡ moved_on w l → w.place < v.place
    → length w.source.«data».now - v.place < length w.source.«data».now - w.place
next_less w v l e h =
    let k : v.place ≡ (step_at w.source.order w.source.«data».now w.place l).place = ap (λ (x : Walk). x.place) e ∙ moved_place w l in
    less (length w.source.«data».now) w.place v.place h (rw k (step_moved w.source.order w.source.«data».now w.place l))
