use mathlib.Core.Path.{◌≡◌}
use mathlib.Core.Bool.{true}
use Rattle.utf8.specs.Utf8.{fits}
use Rattle.utf8.proofs.sequence.Given as goal

-- The first j bytes fit the row.
abbrev pub invariant-loop-j : goal.invariant-loop-j
invariant-loop-j l = fits l.row l.s l.j ≡ true
