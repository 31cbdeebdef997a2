use Rattle.core_checks.specs.Checks.{unless_refused}
use Rattle.alignment.specs.Body.{alignment_read, alignment_given}
use Rattle.strip_kinds.specs.Body.{body_read}
use Rattle.strip_read.specs.Read.{read_body}
use Rattle.exports_read.proofs.sections.read_ali1.Goals as goal

pub returns-clause-delivered : goal.returns-clause-delivered
unfolding read_body body_read alignment_read alignment_given unless_refused
returns-clause-delivered c = rw c.in_ok-m.ensures.1 c.deliver_pane.ensures.delivered
