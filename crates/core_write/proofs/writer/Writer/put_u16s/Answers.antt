use mathlib.Core.Path.{sym}
use Rattle.core_read.specs.Bytes.{bytes_of_all}
use Rattle.core_write.proofs.Puts.{all_more}
use Rattle.core_write.proofs.Chain.{◌then◌, puts_none, puts_as}
use native.Mathlib.Omega.{arith}
use Rattle.core_write.proofs.writer.Writer.put_u16s.Goals as goal

pub loop-v-init : goal.loop-v-init
unfolding bytes_of_all
loop-v-init c = puts_none _

pub loop-v-preserved : goal.loop-v-preserved
loop-v-preserved c =
    puts_as (omega arith) (λ order. sym (all_more order 2 c.args.list.now c.loop-v.v-index c.loop-v-test.true)) (c.loop-v.invariant then c.put_number.ensures)
