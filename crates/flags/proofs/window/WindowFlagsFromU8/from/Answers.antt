use native.Mathlib.Nat.{div-one}
use Rattle.flags.specs.Fields.{window_flags_of}
use Rattle.flags.proofs.window.WindowFlagsFromU8.from.Goals as goal

pub returns : goal.returns
unfolding window_flags_of
returns c = rw (div-one c.args.raw, c.from.ensures)
