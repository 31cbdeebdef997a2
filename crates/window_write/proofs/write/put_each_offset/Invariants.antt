use Prim.Native.Nat.{◌*◌}
use Rattle.core_read.specs.Bytes.{bytes_of_all}
use Rattle.core_write.specs.Puts.{Puts}
use Rattle.window_write.specs.Write.{frame_offsets}
use Rattle.window_write.proofs.write.put_each_offset.Given as goal

abbrev pub invariant-loop-i : goal.invariant-loop-i
invariant-loop-i l = Puts l.initial.w l.w (4 * l.i) (λ order. bytes_of_all order 4 (frame_offsets l.first l.i))
