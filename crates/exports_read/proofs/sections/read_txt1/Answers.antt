use Rattle.core_checks.specs.Checks.{unless_refused}
use Rattle.text_box.specs.Body.{text_box_read, text_box_given}
use Rattle.strip_kinds.specs.Body.{body_read}
use Rattle.strip_read.specs.Read.{read_body}
use Rattle.text_box.proofs.Calls.{measured_ready}
use Rattle.exports_read.proofs.sections.read_txt1.Goals as goal

pub fill-requires-clause-standing : goal.fill-requires-clause-standing
fill-requires-clause-standing c = rw c.in_ok-m.ensures.0 (measured_ready _ _ _ _ _ _ _ c.in_ok-m.ensures.1)

pub returns-clause-delivered : goal.returns-clause-delivered
unfolding read_body body_read text_box_read text_box_given unless_refused
returns-clause-delivered c = rw c.in_ok-m.ensures.1 c.deliver_pane.ensures.delivered
