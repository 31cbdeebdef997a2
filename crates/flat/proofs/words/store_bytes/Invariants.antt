use Rattle.flat.proofs.Storing.{Copied}
use Rattle.flat.proofs.words.store_bytes.Given as goal

abbrev pub invariant-loop-i : goal.invariant-loop-i
invariant-loop-i l = Copied l.bytes l.run l.i
