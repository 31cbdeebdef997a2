use Prim.Native.Nat.{◌≤◌}
use native.Mathlib.Omega.{arith}
use mathlib.Core.Path.{sym}
use mathlib.Core.List.{[], ◌∷◌}
use Rattle.flags.specs.declared.position.HorizontalPosition.TheVariants.{Center, Left, Right}
use Rattle.flags.proofs.Enums.{unknown_first}
use Rattle.flags.proofs.position.HorizontalPositionFromU8.from.Goals as goal

pub returns-in_default : goal.returns-in_default
returns-in_default c = sym (unknown_first Center (Left ∷ Right ∷ []) c.args.n (λ (h : c.args.n ≤ 2). omega arith))
