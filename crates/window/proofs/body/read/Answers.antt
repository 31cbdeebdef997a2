use Rattle.window.proofs.Calls.{measured_ready}
use Rattle.window.proofs.body.read.Goals as goal

pub fill-requires : goal.fill-requires
fill-requires c = record { le_place = c.requires.le_place; ahead = rw c.in-Ok.ensures.0 (measured_ready _ _ _ _ _ _ _ c.in-Ok.ensures.1).quads; in_bounds = c.requires.in_bounds }
