use Prim.Native.Nat.{◌*◌}
use lib.ListN.{take}
use Rattle.core_read.specs.Bytes.{bytes_of_all}
use Rattle.core_write.specs.Puts.{Puts}
use Rattle.ui2d.proofs.quads.put_each.Given as goal

abbrev pub invariant-loop-numbers : goal.invariant-loop-numbers
invariant-loop-numbers l = Puts l.initial.w l.w (32 * l.numbers-index) (λ order. bytes_of_all order 4 (take (8 * l.numbers-index) l.list))
