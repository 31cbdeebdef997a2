use Rattle.std.proofs.Common.{◌≡◌, drop}
use Rattle.flat_records.specs.Below.{good, checked_by}
use Rattle.flat_records.proofs.bounds.all_below.Given as goal

abbrev pub invariant-loop-from : goal.invariant-loop-from
invariant-loop-from l = checked_by good l.bounds l.w.words.now ≡ checked_by good (drop l.from-index l.bounds) l.w.words.now
