use native.Mathlib.Nat.{div-one}
use Rattle.flags.specs.Fields.{pane_flags_of}
use Rattle.flags.proofs.pane.PaneFlagsFromU8.from.Goals as goal

pub returns : goal.returns
unfolding pane_flags_of
returns c = rw (div-one c.args.raw)
