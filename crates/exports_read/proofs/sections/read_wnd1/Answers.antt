use Rattle.core_checks.specs.Checks.{unless_refused}
use Rattle.window.specs.Body.{window_read, window_given}
use Rattle.strip_kinds.specs.Body.{body_read}
use Rattle.strip_read.specs.Read.{read_body}
use Rattle.window.proofs.Calls.{measured_ready}
use Rattle.exports_read.proofs.sections.read_wnd1.Goals as goal

pub fill-requires-clause-ahead : goal.fill-requires-clause-ahead
fill-requires-clause-ahead c = rw c.in_ok-m.ensures.0 (measured_ready _ _ _ _ _ _ _ c.in_ok-m.ensures.1).quads

pub returns-clause-delivered : goal.returns-clause-delivered
unfolding read_body body_read window_read window_given unless_refused
returns-clause-delivered c = rw c.in_ok-m.ensures.1 c.deliver_pane.ensures.delivered
