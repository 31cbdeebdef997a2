use Rattle.core_read.specs.Bytes.{bytes_of_all}
use Rattle.core_write.proofs.Chain.{◌then◌, puts_none, puts_as}
use Rattle.ui2d.proofs.QuadRuns.{quads_more}
use native.Mathlib.Omega.{arith}
use Rattle.ui2d.proofs.quads.put_each.Goals as goal

pub loop-numbers-init : goal.loop-numbers-init
unfolding bytes_of_all
loop-numbers-init c = puts_none _

pub loop-numbers-preserved : goal.loop-numbers-preserved
loop-numbers-preserved c =
    let cut = c.as_chunks.ensures in
    puts_as (omega arith) (λ order. quads_more order c.args.list.now _ _ _ _ cut.front (omega (arith, cut.front_len)) (omega arith) c.load_quad-quad.ensures)
    (c.loop-numbers.invariant then c.put_quad.ensures)
