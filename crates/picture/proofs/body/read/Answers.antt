use Rattle.picture.proofs.Calls.{measured_ready}
use Rattle.picture.proofs.body.read.Goals as goal

pub fill-requires : goal.fill-requires
fill-requires c = rw c.in-Ok.ensures.0 (measured_ready _ _ _ _ _ _ _ c.in-Ok.ensures.1 _ c.requires.1)
