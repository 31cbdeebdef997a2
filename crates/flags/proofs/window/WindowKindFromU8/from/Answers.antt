use Prim.Native.Nat.{◌≤◌}
use native.Mathlib.Omega.{arith}
use mathlib.Core.Path.{sym}
use mathlib.Core.List.{[], ◌∷◌}
use Rattle.flags.specs.declared.window.WindowKind.TheVariants.{Around, Horizontal, HorizontalNoContent}
use Rattle.flags.proofs.Enums.{unknown_first}
use Rattle.flags.proofs.window.WindowKindFromU8.from.Goals as goal

pub returns-in_default : goal.returns-in_default
returns-in_default c = sym (unknown_first Around (Horizontal ∷ HorizontalNoContent ∷ []) c.args.n (λ (h : c.args.n ≤ 2). omega arith))
