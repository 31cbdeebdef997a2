use Prim.Native.Nat.{◌*◌}
use Rattle.core_read.proofs.Lists.{Filled}
use Rattle.ui2d.proofs.quads.fill_quads.Given as goal

abbrev pub invariant-loop-i : goal.invariant-loop-i
invariant-loop-i l = Filled l.source.order 4 l.source.«data».now l.at (8 * l.n) l.initial.list l.list (8 * l.i)
