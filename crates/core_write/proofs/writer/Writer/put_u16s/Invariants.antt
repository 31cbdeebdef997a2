use Prim.Native.Nat.{◌*◌}
use lib.ListN.{take}
use Rattle.core_read.specs.Bytes.{bytes_of_all}
use Rattle.core_write.specs.Puts.{Puts}
use Rattle.core_write.proofs.writer.Writer.put_u16s.Given as goal

abbrev pub invariant-loop-v : goal.invariant-loop-v
invariant-loop-v l = Puts l.initial.self l.self (2 * l.v-index) (λ order. bytes_of_all order 2 (take l.v-index l.list))
