use mathlib.Core.Path.{◌∙◌, sym}
use Rattle.floats.proofs.Floats.{only_nan, bits_nan}
use Rattle.floats.proofs.Binary32FromFloatValue.from.Goals as goal

pub returns-in-Number : goal.returns-in-Number
returns-in-Number c = cc (bits_nan _ (only_nan _ (sym c.is_nan.ensures.value ∙ c.if-is_nan.true)))
