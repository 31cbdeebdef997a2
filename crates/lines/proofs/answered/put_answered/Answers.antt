use mathlib.Core.Path.{sym, ◌∙◌}
use lib.Seq.{length-take-le}
use native.Mathlib.Omega.{arith}
use Rattle.core_write.proofs.Texts.{puts_text}
use Rattle.lines.specs.Answered.{answer_to}
use Rattle.lines.proofs.Even.{even_within}
use Rattle.lines.proofs.answered.put_answered.Goals as goal

pub slice_bounds-section_answer-end : goal.slice_bounds-section_answer-end
slice_bounds-section_answer-end c = sym (length-take-le _ _ (even_within _ _ (sym c.spells.ensures ∙ c.if-spells.true)))

pub returns-then-spells : goal.returns-then-spells
unfolding answer_to
returns-then-spells c =
    let put = rw c.section_answer-answer.ensures at c.answer_line.ensures.put in
    record { put = rw (sym c.spells.ensures ∙ c.if-spells.true) put; upper_bound = c.answer_line.ensures.upper_bound }

pub returns-else-spells : goal.returns-else-spells
unfolding answer_to
returns-else-spells c = record { put = rw (sym c.spells.ensures ∙ c.if-spells.false) (puts_text c.bad_line.ensures); upper_bound = omega (arith, c.bad_line.ensures.put.place) }
