use mathlib.Core.Path.{◌≡◌}
use Rattle.strip_header.specs.declared.Section.TheVariants.{End, Passed, Pane}
use Rattle.core_write.proofs.Texts.{◌then◌}
use native.Mathlib.Omega.{arith}
use Rattle.page.specs.PageLine.{end_text, page_text}
use Rattle.page.proofs.line.put_text.Goals as goal

pub returns-in-Ok-End : goal.returns-in-Ok-End
unfolding page_text end_text
returns-in-Ok-End c =
    let e : c.in-Ok-End.field-0 ≡ End = rw c.in-Ok-End.is at c.in-Ok-End.field-0-is in
    record { put = rw (c.in-Ok-End.is, e) (c.put_bytes.ensures then c.put_place.ensures.put); upper_bound = omega (arith, c.put_bytes.ensures.put.place, c.put_place.ensures.upper_bound) }

pub returns-in-Ok-Passed : goal.returns-in-Ok-Passed
unfolding page_text
returns-in-Ok-Passed c =
    let e : c.in-Ok-Passed.field-0 ≡ Passed c.in-Ok-Passed.next = rw c.in-Ok-Passed.is at c.in-Ok-Passed.field-0-is in
    record { put = rw (c.in-Ok-Passed.is, e) c.put_letters.ensures.put; upper_bound = c.put_letters.ensures.upper_bound }

pub returns-in-Ok-Pane : goal.returns-in-Ok-Pane
unfolding page_text
returns-in-Ok-Pane c =
    let e : c.in-Ok-Pane.field-0 ≡ Pane c.in-Ok-Pane.field-0-0 c.in-Ok-Pane.next c.in-Ok-Pane.field-0-2 = rw c.in-Ok-Pane.is at c.in-Ok-Pane.field-0-is in
    record { put = rw (c.in-Ok-Pane.is, e) c.put_pane.ensures.put; upper_bound = c.put_pane.ensures.upper_bound }

pub returns-in-Err : goal.returns-in-Err
unfolding page_text
returns-in-Err c = record { put = rw c.in-Err.is c.put_refused.ensures.put; upper_bound = c.put_refused.ensures.upper_bound }
