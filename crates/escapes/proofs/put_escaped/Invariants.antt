use Rattle.core_write.specs.Puts.{PutsText}
use Rattle.escapes.specs.Escaped.{escaped_up_to}
use Rattle.escapes.proofs.put_escaped.Given as goal

abbrev pub invariant-loop-i : goal.invariant-loop-i
invariant-loop-i l = PutsText l.initial.w l.w (escaped_up_to l.ascii l.s l.i)
