use mathlib.Core.Path.{ap}
use Rattle.strip_header.specs.Header.{section_by_number}
use Rattle.walk.proofs.Steps.{next_made}
use Rattle.walk.specs.declared.Step.{Step}
use Rattle.walk.proofs.section_after.Goals as goal

pub returns : goal.returns
returns c =
    let walk = c.over-walk.ensures in
    let next = c.next-read.ensures in
    let step = rw (walk.0, walk.1) at (next_made c.over-walk.result _ _ _ next.value next.moved) in
    record { value = step; lists_after = rw (walk.0, walk.1) at next.lists_after; answer_value = ap (λ (x : Step). section_by_number x.answer) step }
