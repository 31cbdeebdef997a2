use mathlib.Core.Path.{◌≡◌}
use Rattle.strip_header.specs.declared.Section.TheVariants.{End, Passed, Pane}
use Rattle.core_write.proofs.Texts.{◌then◌}
use Rattle.lines.specs.Answers.{section_text}
use native.Mathlib.Omega.{arith}
use Rattle.lines.proofs.put_answer.Goals as goal

pub returns-in-Ok-End : goal.returns-in-Ok-End
unfolding section_text
returns-in-Ok-End c =
    let e : c.in-Ok-End.field-0 ≡ End = rw c.in-Ok-End.is at c.in-Ok-End.field-0-is in
    record { put = rw (c.in-Ok-End.is, e) c.put_bytes.ensures; upper_bound = omega (arith, c.put_bytes.ensures.put.place) }

pub returns-in-Ok-Passed : goal.returns-in-Ok-Passed
unfolding section_text
returns-in-Ok-Passed c =
    let put = c.put_bytes-in-Ok-Passed.ensures then c.put_figure.ensures.put in
    let e : c.in-Ok-Passed.field-0 ≡ Passed _ = rw c.in-Ok-Passed.is at c.in-Ok-Passed.field-0-is in
    record { put = rw (c.in-Ok-Passed.is, e) put; upper_bound = omega (arith, c.put_bytes-in-Ok-Passed.ensures.put.place, c.put_figure.ensures.upper_bound) }

pub returns-in-Ok-Pane : goal.returns-in-Ok-Pane
unfolding section_text
returns-in-Ok-Pane c =
    let put = (c.put_bytes-in-Ok-Pane.ensures then c.put_figure-in-Ok-Pane.ensures.put) then c.put_figure-in-Ok-Pane-2.ensures.put in
    let e : c.in-Ok-Pane.field-0 ≡ Pane _ _ _ = rw c.in-Ok-Pane.is at c.in-Ok-Pane.field-0-is in
    record { put = rw (c.in-Ok-Pane.is, e) put; upper_bound = omega (arith, c.put_bytes-in-Ok-Pane.ensures.put.place, c.put_figure-in-Ok-Pane.ensures.upper_bound, c.put_figure-in-Ok-Pane-2.ensures.upper_bound) }

pub returns-in-Err : goal.returns-in-Err
unfolding section_text
returns-in-Err c = record { put = rw c.in-Err.is c.put_refusal.ensures.put; upper_bound = c.put_refusal.ensures.upper_bound }
