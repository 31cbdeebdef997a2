use mathlib.Core.Path.{refl}
use native.Mathlib.Omega.{arith}
use Rattle.core_read.specs.Bytes.{bytes_of_all}
use Rattle.core_write.proofs.Chain.{◌then◌, puts_as, puts_none}
use Rattle.window_write.specs.Write.{frame_offsets}
use Rattle.window_write.proofs.Puts.{offsets_more}
use Rattle.window_write.proofs.write.put_each_offset.Goals as goal

pub loop-i-init : goal.loop-i-init
unfolding frame_offsets bytes_of_all
loop-i-init c = puts_none _

pub loop-i-preserved : goal.loop-i-preserved
loop-i-preserved c =
    puts_as (omega arith) (λ order. offsets_more order c.args.first c.loop-i.i _ refl) (c.loop-i.invariant then c.put_number.ensures)
