use mathlib.Core.Path.{sym, ◌∙◌}
use native.Mathlib.Omega.{arith}
use Rattle.core_checks.proofs.Checked.{section_started}
use Rattle.strip_read.proofs.Steps.{body_given, answer_given, measured_numbered, measured_none, measured_body, measured_needs}
use Rattle.strip_read.proofs.measure.measure_section.Goals as goal

pub body_at-requires : goal.body_at-requires
body_at-requires c = λ d h. let (f, a) = section_started _ _ _ (sym c.section_start-checked.ensures ∙ h) in (a.within, a.most)

pub overflow_add-place : goal.overflow_add-place
overflow_add-place c = omega (arith, measured_needs _ _ _ _ c.section_start-checked.ensures _ (body_given c.body_at.ensures c.in-Ok.is))

pub measure_kind-read-requires : goal.measure_kind-read-requires
measure_kind-read-requires c = (omega arith, omega (arith, measured_needs _ _ _ _ c.section_start-checked.ensures _ (body_given c.body_at.ensures c.in-Ok.is)))

pub returns-in-Ok : goal.returns-in-Ok
returns-in-Ok c =
    let asked = measured_numbered (c.finish.ensures ∙ measured_body _ _ _ _ c.section_start-checked.ensures _ (body_given c.body_at.ensures c.in-Ok.is) _ c.measure_kind-read.ensures) in
    record { value = asked.0; answer_value = asked.1 }

pub returns-in-Err : goal.returns-in-Err
returns-in-Err c =
    let asked = measured_numbered (c.answered.ensures ∙ measured_none _ _ _ _ c.section_start-checked.ensures _ (answer_given c.body_at.ensures c.in-Err.is)) in
    record { value = asked.0; answer_value = asked.1 }
