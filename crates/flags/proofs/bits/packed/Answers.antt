use Rattle.std.proofs.Common.{refl, arith}
use Rattle.std.proofs.lemmas.List.{length-reverse}
use Rattle.std.proofs.lemmas.Iterator.Adapters.{YieldsList-from_rev_slice}
use Rattle.std.proofs.lemmas.Iterator.Consumers.{YieldsList-turn}
use Rattle.flags.specs.Packed.{pack}
use Rattle.flags.proofs.Packed.{byte_le, taken_below, taken_more}
use Rattle.flags.proofs.bits.packed.Goals as goal

pub loop-flag-init : goal.loop-flag-init
unfolding pack
loop-flag-init c = refl

pub overflow_mul-n : goal.overflow_mul-n
overflow_mul-n c =
    let t = YieldsList-turn (YieldsList-from_rev_slice c.args.flags.now cc) c.loop-flag.yielded _ c.loop-flag.yielded_by _ _ c.in-Some.flag c.in-Some.is c.next.ensures.steps in
    omega (arith, taken_below c.loop-flag.yielded (omega (arith, length-reverse c.args.flags.now)))

pub overflow_add-n : goal.overflow_add-n
overflow_add-n c =
    let t = YieldsList-turn (YieldsList-from_rev_slice c.args.flags.now cc) c.loop-flag.yielded _ c.loop-flag.yielded_by _ _ c.in-Some.flag c.in-Some.is c.next.ensures.steps in
    omega (arith, taken_below c.loop-flag.yielded (omega (arith, length-reverse c.args.flags.now)), byte_le c.in-Some.flag.now)

pub loop-flag-preserved : goal.loop-flag-preserved
loop-flag-preserved c = omega (arith, taken_more c.loop-flag.yielded c.in-Some.flag)
