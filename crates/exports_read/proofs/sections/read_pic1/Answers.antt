use Rattle.core_checks.specs.Checks.{unless_refused}
use Rattle.picture.specs.Body.{picture_read, picture_given}
use Rattle.strip_kinds.specs.Body.{body_read}
use Rattle.strip_read.specs.Read.{read_body}
use Rattle.picture.proofs.Calls.{measured_ready}
use Rattle.exports_read.proofs.sections.read_pic1.Goals as goal

pub fill-requires : goal.fill-requires
fill-requires c = rw c.in_ok-m.ensures.0 (measured_ready _ _ _ _ _ _ _ c.in_ok-m.ensures.1 _ c.requires.1)

pub returns-clause-delivered : goal.returns-clause-delivered
unfolding read_body body_read picture_read picture_given unless_refused
returns-clause-delivered c = rw c.in_ok-m.ensures.1 c.deliver_pane.ensures.delivered
