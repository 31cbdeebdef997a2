use Rattle.core_checks.specs.Checks.{unless_refused}
use Rattle.pane.specs.Body.{pane_read, pane_given}
use Rattle.strip_kinds.specs.Body.{body_read}
use Rattle.strip_read.specs.Read.{read_body}
use Rattle.exports_read.proofs.sections.read_pan1.Goals as goal

pub returns-clause-delivered : goal.returns-clause-delivered
unfolding read_body body_read pane_read pane_given unless_refused
returns-clause-delivered c = rw c.in_ok-base.ensures.1 c.deliver_pane.ensures.delivered
