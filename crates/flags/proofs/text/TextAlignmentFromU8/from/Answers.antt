use native.Mathlib.Omega.{arith}
use mathlib.Core.Path.{sym}
use mathlib.Core.List.{[], ◌∷◌}
use Rattle.flags.specs.declared.text.TextAlignment.TheVariants.{Synchronous, Left, Center}
use Rattle.flags.proofs.Enums.{unknown_last}
use Rattle.flags.proofs.text.TextAlignmentFromU8.from.Goals as goal

pub returns-in_default : goal.returns-in_default
returns-in_default c = sym (unknown_last (Synchronous ∷ Left ∷ Center ∷ []) _ c.args.n (omega arith))
