use lib.ListN.{length}
use Rattle.utf8.proofs.Walk.{Walked}
use Rattle.utf8.proofs.well_formed.Given as goal

-- What is left of s decides (Walked): a sequence, then a run of ASCII bytes.
abbrev pub invariant-loop-left : goal.invariant-loop-left
invariant-loop-left l = Walked l.s l.left

abbrev pub decreases-loop-left : goal.decreases-loop-left
decreases-loop-left l = length l.left
