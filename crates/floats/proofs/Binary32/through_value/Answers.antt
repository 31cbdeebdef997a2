use mathlib.Core.Path.{ap, ◌∙◌}
use Rattle.floats.specs.Floats.{bits_of}
use Rattle.floats.proofs.Floats.{value_back}
use borrow.Author.Rules.{rules}
use Rattle.floats.proofs.Binary32.through_value.Goals as goal

pub returns : goal.returns
returns c = c.from-2.ensures ∙ ap bits_of c.from.ensures ∙ value_back c.args.self (search rules)
