use native.Mathlib.Nat.{div-one}
use Rattle.flags.specs.Fields.{position_of}
use Rattle.flags.proofs.position.BflytPositionFromU8.from.Goals as goal

pub returns : goal.returns
unfolding position_of
returns c = rw (div-one c.args.raw, c.from.ensures, c.from-2.ensures, c.from-3.ensures, c.from-4.ensures)
