-- What a read answers where there is no body to read: the words and the lists stay as they were.
use mathlib.Core.Path.{◌≡◌, refl}
use mathlib.Core.Bool.{Bool, true, false, cond}
use Prim.Native.Nat.{ℕ}
use mathlib.Core.List.{List}
use lib.Dec.{eqb}
use lib.ListN.{length}
use Rattle.core_read.specs.Taken.{Place}
use Rattle.core_read.specs.declared.cursor.ByteOrder.{ByteOrder}
use Rattle.core_read.specs.declared.error.Refusal.{Refusal}
use Rattle.strip_records.specs.Kinds.{KindFound}
use Rattle.strip_records.specs.Whole.{Lists}
use Rattle.strip_read.specs.Read.{refused_with, ended_with, passed_with, body_in, body_at}
use Rattle.strip_read.specs.declared.read.Body.{Body}
use Rattle.strip_read.specs.declared.read.SectionRead.{SectionRead}
use Rattle.exports_answers.specs.Answers.{section_answer}
use Rattle.exports_read.specs.Outcomes.{read_outcome, delivered}
use Rattle.std.specs.Prelude.{Result, Err, Ok, None, Some}

-- of a read that gives no pane
abbrev Alone : SectionRead → Type 0
Alone r = (w : List ℕ) (l : Lists) → read_outcome (section_answer r.answer) w l ≡ delivered r w l

refused_alone : (why : Refusal) → Alone (refused_with why)
unfolding delivered refused_with
refused_alone why w l = refl

in_alone : (q : Place) (f : KindFound) (next : ℕ) (r : SectionRead) → body_in q f next ≡ Err r → Alone r
unfolding body_in delivered passed_with refused_with
in_alone (Ok c) (Some kind) next r e = cc
in_alone (Ok c) None next r e =
    let h : passed_with next ≡ r = cc in
    λ w l. rw (← h) refl
in_alone (Err why) f next r e =
    let h : refused_with why ≡ r = cc in
    rw (← h) (refused_alone why)

at_alone : (t : Bool) (m : Result Body SectionRead) → ((r : SectionRead) → m ≡ Err r → Alone r) → (r : SectionRead) → cond t (Err ended_with) m ≡ Err r → Alone r
unfolding delivered ended_with
at_alone true m f r e =
    let h : ended_with ≡ r = cc in
    λ w l. rw (← h) refl
at_alone false m f r e = f r e

pub alone : (order : ByteOrder) (s : List ℕ) (p : ℕ) (q : Place) (r : SectionRead) → body_at order s p q ≡ Err r → Alone r
unfolding body_at
alone order s p (Ok c) r e = at_alone (eqb p (length s)) _ (λ x h. in_alone _ _ _ x h) r e
alone order s p (Err why) r e =
    let h : refused_with why ≡ r = cc in
    rw (← h) (refused_alone why)
