use mathlib.Core.Path.{sym, ◌∙◌}
use lib.Seq.{length-take-le}
use native.Mathlib.Omega.{arith}
use Rattle.core_write.proofs.Texts.{puts_text}
use Rattle.lines.proofs.Even.{even_within}
use Rattle.lines.specs.Back.{back_to}
use Rattle.lines.proofs.back.put_written_back.Goals as goal

pub slice_bounds-put_line-end : goal.slice_bounds-put_line-end
slice_bounds-put_line-end c = sym (length-take-le _ _ (even_within _ _ (sym c.spells.ensures ∙ c.if-spells.true)))

pub returns-then-spells : goal.returns-then-spells
unfolding back_to
returns-then-spells c = record { put = rw (sym c.spells.ensures ∙ c.if-spells.true) c.put_line.ensures.put; upper_bound = c.put_line.ensures.upper_bound }

pub returns-else-spells : goal.returns-else-spells
unfolding back_to
returns-else-spells c = record { put = rw (sym c.spells.ensures ∙ c.if-spells.false) (puts_text c.bad_line.ensures); upper_bound = omega (arith, c.bad_line.ensures.put.place) }
