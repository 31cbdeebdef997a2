use Rattle.pane_checks.specs.Checks.{name_bad}
use Rattle.pane_checks.proofs.checks.name_bad.Goals as goal

pub returns : goal.returns
unfolding name_bad
returns c = rw (c.name_ill-ill.ensures, c.has_zero-zero.ensures, c.text_of-text.ensures)
