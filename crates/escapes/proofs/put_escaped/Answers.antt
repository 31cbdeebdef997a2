use Rattle.core_write.proofs.Chain.{puts_none}
use Rattle.escapes.specs.Escaped.{escaped_up_to, escaped}
use Rattle.escapes.proofs.Laws.{up_to_short, puts_more}
use native.Mathlib.Omega.{arith}
use mathlib.Core.Path.{◌≡◌}
use lib.ListN.{length}
use Rattle.escapes.proofs.put_escaped.Goals as goal

pub loop-i-init : goal.loop-i-init
unfolding escaped_up_to
loop-i-init c = puts_none _

pub put_shown-requires : goal.put_shown-requires
put_shown-requires c = omega (arith, up_to_short c.args.ascii c.args.s.now c.loop-i.i, c.loop-i.invariant.put.long, c.loop-i.invariant.put.place)

pub loop-i-preserved : goal.loop-i-preserved
loop-i-preserved c = puts_more _ _ _ _ c.is_written_out-write_out.ensures c.loop-i.invariant c.put_shown.ensures

pub returns-clause-put : goal.returns-clause-put
unfolding escaped
returns-clause-put c =
    let all : c.loop-i.i ≡ length c.args.s.now = omega arith in
    rw all at c.loop-i.invariant

pub returns-clause-upper_bound : goal.returns-clause-upper_bound
returns-clause-upper_bound c = omega (arith, up_to_short c.args.ascii c.args.s.now c.loop-i.i, c.loop-i.invariant.put.place)
