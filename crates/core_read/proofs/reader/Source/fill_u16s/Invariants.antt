use Rattle.core_read.proofs.Lists.{Filled}
use Rattle.core_read.proofs.reader.Source.fill_u16s.Given as goal

abbrev pub invariant-loop-i : goal.invariant-loop-i
invariant-loop-i l = Filled l.self.order 2 l.self.«data».now l.at l.n l.initial.x-items l.x-items l.i
