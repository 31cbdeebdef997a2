use lib.ListN.{length}
use Rattle.utf16.proofs.Rest.{ScansRest}
use Rattle.utf16.proofs.first_unpaired.Given as goal

-- The scan of what is left gives the answer for the whole.
abbrev pub invariant-loop-rest : goal.invariant-loop-rest
invariant-loop-rest l = ScansRest l.units l.rest

abbrev pub decreases-loop-rest : goal.decreases-loop-rest
decreases-loop-rest l = length l.rest
