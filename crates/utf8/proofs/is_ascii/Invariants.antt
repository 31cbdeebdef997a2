use mathlib.Core.Path.{◌≡◌}
use mathlib.Core.Bool.{not, ◌&&◌}
use lib.ListN.{drop}
use Rattle.utf8.specs.Utf8.{is_ascii}
use Rattle.utf8.proofs.is_ascii.Given as goal

-- The whole is ASCII where no byte before place b-index was high and the bytes from there on are ASCII.
abbrev pub invariant-loop-b : goal.invariant-loop-b
invariant-loop-b l = is_ascii l.s ≡ (not l.high && is_ascii (drop l.b-index l.s))
