use mathlib.Core.Path.{sym, ◌∙◌}
use native.Mathlib.Omega.{arith}
use Rattle.strip_records.specs.Whole.{lists}
use Rattle.strip_records.proofs.Held.{filled_as, filled_none}
use Rattle.strip_read.proofs.Cleared.{read_started}
use Rattle.strip_read.proofs.Steps.{body_given, answer_given, numbered, read_none, read_body_at, read_needs}
use Rattle.strip_read.proofs.read.read_section.Goals as goal

pub body_at-requires : goal.body_at-requires
body_at-requires c = λ d h. let (a, f) = read_started _ _ (lists _ _ _ _) _ (sym c.read_start-checked.ensures ∙ h) in (a.within, a.most)

pub overflow_add-place : goal.overflow_add-place
overflow_add-place c = omega (arith, (read_needs _ _ _ (lists _ _ _ _) _ c.read_start-checked.ensures _ (body_given c.body_at.ensures c.in-Ok.is)).0)

pub read_kind-read-requires : goal.read_kind-read-requires
read_kind-read-requires c =
    let x = read_needs _ _ _ (lists _ _ _ _) _ c.read_start-checked.ensures _ (body_given c.body_at.ensures c.in-Ok.is) in
    (omega arith, omega (arith, x.0), x.1)

pub returns-in-Ok : goal.returns-in-Ok
returns-in-Ok c =
    let x = read_body_at _ _ _ (lists _ _ _ _) _ c.read_start-checked.ensures _ (body_given c.body_at.ensures c.in-Ok.is) _ _ c.read_kind-read.ensures.value c.read_kind-read.ensures.lists_after.filled in
    let asked = numbered (c.finish.ensures ∙ x.0, x.1) in record { value = asked.0; lists_after = filled_as c.read_kind-read.ensures.lists_after asked.1.0; answer_value = asked.1.1 }

pub returns-in-Err : goal.returns-in-Err
returns-in-Err c =
    let x = read_none _ _ _ (lists _ _ _ _) _ c.read_start-checked.ensures _ (answer_given c.body_at.ensures c.in-Err.is) in
    let asked = numbered (c.answered.ensures ∙ x.0, x.1) in record { value = asked.0; lists_after = filled_none asked.1.0; answer_value = asked.1.1 }
