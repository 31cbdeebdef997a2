-- What the code answers of a step: the value, with the reader moved on to where the run stands then; or the refusal.
use Rattle.std.specs.Prelude.{◌≡◌, ℕ, List, Err, Ok, Result}
use Rattle.std.specs.Fn.{Once}
use denote.Ref.{MutBor}
use Rattle.core_read.specs.Taken.{advanced, Place}
use Rattle.core_read.specs.declared.cursor.ByteOrder.{ByteOrder}
use Rattle.core_read.specs.declared.cursor.Cursor.{Cursor}
use Rattle.core_read.specs.Taken.{Taken}
use Rattle.core_read.specs.declared.error.Refusal.{Refusal}
use Rattle.core_read.specs.declared.reader.Reader.{Reader}
use Rattle.core_read.specs.declared.reader.Source.{Source}

-- of a step that reads a value
abbrev pub Took : {A : Type 0} → Reader → Reader → Result A Refusal → (ByteOrder → List ℕ → Place → Taken A) → Type 0
Took old new (Ok v) step =
    (new.source ≡ old.source)
    × (step old.source.order old.source.«data».now (Ok old.cursor) ≡ record { value = v; then = Ok new.cursor })
Took old new (Err why) step = (step old.source.order old.source.«data».now (Ok old.cursor)).then ≡ Err why

-- of a step that keeps no value
abbrev pub Went : Reader → Reader → Result (Unit {0}) Refusal → (ByteOrder → List ℕ → Place → Place) → Type 0
Went old new (Ok u) step = (new.source ≡ old.source) × (step old.source.order old.source.«data».now (Ok old.cursor) ≡ Ok new.cursor)
Went old new (Err why) step = step old.source.order old.source.«data».now (Ok old.cursor) ≡ Err why

-- of a read at a place where all its w bytes are there: what a step from there gives
pub record Stands {A : Type 0} (step : Place → Taken A) (at w : ℕ) (v : A) : Type 0 where
  pub here : (c : Cursor) → c.pos ≡ at → step (Ok c) ≡ record { value = v; then = Ok (advanced c w) }

-- a number of bytes, in the type of the code
abbrev pub number_as : {A : Type 0} → (ℕ → A) → Taken ℕ → Taken A
number_as of_bits t = record { value = of_bits t.value; then = t.then }

-- ---- a step from the place of a run, which may be refused

-- f may be lent a reader that stands at a place of s
abbrev pub Lendable : {F A : Type 0} → Once F (MutBor Reader × Unit {0}) (Result A Refusal × (MutBor Reader × Unit {0})) → F → Source → Place → Type 0
Lendable g f s p = (r : MutBor Reader) → r.now.source ≡ s → Ok r.now.cursor ≡ p → g.pre f (r, tt)

-- of such a reader f answers what taken says, which hands the refusal of a place on
pub record StepsAs {F A : Type 0} (g : Once F (MutBor Reader × Unit {0}) (Result A Refusal × (MutBor Reader × Unit {0}))) (f : F) (s : Source) (p : Place) (taken : ByteOrder → List ℕ → Place → Taken A) : Type 0 where
  pub takes : (r : MutBor Reader) (result : Result A Refusal) (r' : MutBor Reader) → r.now.source ≡ s → Ok r.now.cursor ≡ p
      → g.post f (r, tt) (result, (r', tt)) → Took r.now r'.now result taken
  pub hands_on : (why : Refusal) → p ≡ Err why → (taken s.order s.«data».now (Err why)).then ≡ Err why

-- what came of a step: the value, and where the run stands then; or the refusal, which is the place's own where the run was refused
abbrev pub Came : {A : Type 0} → Source → Place → Result (A × Cursor) Refusal → (ByteOrder → List ℕ → Place → Taken A) → Type 0
Came s p (Ok v) taken = taken s.order s.«data».now p ≡ record { value = v.0; then = Ok v.1 }
Came s p (Err why) taken = (taken s.order s.«data».now p).then ≡ Err why
