use Prim.Native.Nat.{◌*◌}
use lib.ListN.{take}
use Rattle.core_write.specs.Puts.{Puts}
use Rattle.lines.specs.Hexadecimal.{hexadecimal}
use Rattle.lines.proofs.put_hexadecimal.Given as goal

abbrev pub invariant-loop-b : goal.invariant-loop-b
invariant-loop-b l = Puts l.initial.w l.w (2 * l.b-index) (λ order. hexadecimal (take l.b-index l.s))
