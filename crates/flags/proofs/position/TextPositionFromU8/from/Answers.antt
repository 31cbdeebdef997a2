use native.Mathlib.Nat.{div-one}
use Rattle.flags.specs.Fields.{origin_of}
use Rattle.flags.proofs.position.TextPositionFromU8.from.Goals as goal

pub returns : goal.returns
unfolding origin_of
returns c = rw (div-one c.args.raw, c.from.ensures, c.from-2.ensures)
