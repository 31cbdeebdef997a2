use Rattle.flat.proofs.Storing.{Loaded}
use Rattle.flat.proofs.words.bytes_at.Given as goal

abbrev pub invariant-loop-i : goal.invariant-loop-i
invariant-loop-i l = Loaded l.w l.at l.initial.out l.out l.i
