use native.Mathlib.Omega.{arith}
use mathlib.Core.Path.{◌≡◌}
use lib.ListN.{length, take}
use lib.Seq.{length-take-le}
use Rattle.core_read.proofs.Lists.{filled_none, filled_more}
use Rattle.core_read.proofs.reader.Source.fill_u16s.Goals as goal

pub loop-i-init : goal.loop-i-init
loop-i-init c = filled_none _ 2 _ _ _ _

pub loop-i-preserved : goal.loop-i-preserved
loop-i-preserved c =
    let long : length (take c.args.n c.args.out.now) ≡ c.args.n = length-take-le c.args.n c.args.out.now c.requires.1 in
    filled_more _ 2 _ _ _ _ _ _ c.loop-i.invariant _ (omega (arith, c.loop-i-test.true)) (omega arith) c.number_at.ensures
