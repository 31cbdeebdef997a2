use native.Mathlib.Omega.{arith}
use Rattle.ui2d.proofs.Here.{quad_made}
use Rattle.ui2d.proofs.quads.quad_at.Goals as goal

pub returns : goal.returns
returns c = quad_made _ _ _ (omega arith) c.at-top_left.ensures c.at-top_right.ensures c.at-bottom_left.ensures c.at-bottom_right.ensures
