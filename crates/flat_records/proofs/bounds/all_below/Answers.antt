use Rattle.std.proofs.Common.{Err, ap, ◌∙◌, arith}
use Rattle.std.proofs.lemmas.Result.{err_from_is_err_and}
use Rattle.flat_records.proofs.Scanning.{within_at, checked_on, checked_stop}
use Rattle.flat_records.proofs.bounds.all_below.Goals as goal

pub below-requires : goal.below-requires
below-requires c = omega (arith, within_at _ _ c.requires c.loop-from-test.true)

pub returns-in_err-below : goal.returns-in_err-below
returns-in_err-below c =
    let (y, p, q) = err_from_is_err_and c.from_residual.result c.from_residual.ensures.1 in
    p ∙ ap Err q ∙ checked_stop _ _ _ c.loop-from.invariant c.loop-from-test.true _ _ c.below.ensures c.in_err-below.was

pub loop-from-preserved : goal.loop-from-preserved
loop-from-preserved c = checked_on _ _ _ c.loop-from.invariant c.loop-from-test.true _ _ c.below.ensures c.in_ok-below.was
