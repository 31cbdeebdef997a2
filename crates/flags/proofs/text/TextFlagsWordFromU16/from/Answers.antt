use native.Mathlib.Nat.{div-one}
use Rattle.flags.specs.Fields.{text_flags_of}
use Rattle.flags.proofs.text.TextFlagsWordFromU16.from.Goals as goal

pub returns : goal.returns
unfolding text_flags_of
returns c = rw (div-one c.args.raw, c.from.ensures)
