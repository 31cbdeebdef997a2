use Rattle.text_box.proofs.Calls.{measured_ready}
use Rattle.text_box.proofs.body.read.Goals as goal

pub fill-requires-clause-standing : goal.fill-requires-clause-standing
fill-requires-clause-standing c = rw c.in-Ok.ensures.0 (measured_ready _ _ _ _ _ _ _ c.in-Ok.ensures.1)
