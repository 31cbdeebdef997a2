use Rattle.text_box_parts.proofs.Pairs.{paired_none, paired_more, paired_all}
use lib.ListN.{length-set}
use native.Mathlib.Omega.{arith}
use Rattle.text_box_parts.proofs.parts.fill_pairs.Goals as goal

pub loop-i-init : goal.loop-i-init
loop-i-init c = paired_none _ _ _ _ _

pub bounds-out-i-in-loop-i : goal.bounds-out-i-in-loop-i
bounds-out-i-in-loop-i c = simp length-set (omega arith)

pub loop-i-preserved : goal.loop-i-preserved
loop-i-preserved c = paired_more _ _ _ _ _ _ _ c.loop-i.invariant _ _ c.loop-i-test.true c.requires.1 c.number_at.ensures c.number_at-in-loop-i.ensures

pub shape_of-out : goal.shape_of-out
shape_of-out c = c.loop-i.invariant.long

pub returns : goal.returns
returns c = paired_all _ _ _ _ _ _ _ c.loop-i.invariant c.loop-i-test.false
