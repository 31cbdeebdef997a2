use mathlib.Core.Path.{◌∙◌}
use Rattle.core_read.proofs.Nul.{any_zero}
use Rattle.core_read.proofs.text.has_zero.Goals as goal

pub returns : goal.returns
returns c = c.contains.ensures.value ∙ any_zero c.args.s.now
