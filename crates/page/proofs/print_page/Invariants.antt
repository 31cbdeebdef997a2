use Rattle.std.proofs.Common.{◌≡◌, ◌-◌, length}
use Rattle.page.proofs.print_page.Given as goal

-- the walk goes over the page, and what is left of the page becomes less
abbrev pub invariant-loop : goal.invariant-loop
invariant-loop g l = l.walk.source.«data».now ≡ l.«data»

abbrev pub decreases-loop : goal.decreases-loop
decreases-loop g l = length l.«data» - l.walk.place
