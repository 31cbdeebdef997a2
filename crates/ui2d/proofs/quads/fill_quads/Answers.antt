use Rattle.core_read.proofs.Lists.{filled_none, filled_all}
use Rattle.ui2d.proofs.QuadRuns.{quad_filled}
use native.Mathlib.Omega.{arith}
use Rattle.ui2d.proofs.quads.fill_quads.Goals as goal

pub loop-i-init : goal.loop-i-init
loop-i-init c = filled_none _ 4 _ _ _ _

pub loop-i-preserved : goal.loop-i-preserved
loop-i-preserved c =
    let f = quad_filled _ _ _ _ _ _ _ c.loop-i.invariant c.loop-i-test.true c.requires.1 _ c.quad_at-quad.ensures in
    rw c.store_quad.ensures f

pub shape_of-list : goal.shape_of-list
shape_of-list c = c.loop-i.invariant.long

pub returns : goal.returns
returns c = filled_all _ 4 _ _ _ _ _ _ c.loop-i.invariant (omega arith)
