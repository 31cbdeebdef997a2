use Prim.Native.Nat.{◌*◌}
use Rattle.core_read.specs.Bytes.{bytes_of_all}
use Rattle.core_write.specs.Puts.{Puts}
use Rattle.text_box_parts.specs.Parts.{column}
use Rattle.text_box_write.proofs.write.put_each.Given as goal

abbrev pub invariant-loop-pair : goal.invariant-loop-pair
invariant-loop-pair l = Puts l.initial.w l.w (4 * l.pair-index) (λ order. bytes_of_all order 4 (column l.lines l.k l.pair-index))
