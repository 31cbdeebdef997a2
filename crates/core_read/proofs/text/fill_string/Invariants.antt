use Rattle.core_read.proofs.Nul.{Copied}
use Rattle.core_read.proofs.text.fill_string.Given as goal

abbrev pub invariant-loop-i : goal.invariant-loop-i
invariant-loop-i l = Copied l.src l.initial.out l.out l.i
