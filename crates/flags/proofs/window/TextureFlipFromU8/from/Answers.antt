use Prim.Native.Nat.{◌≤◌}
use native.Mathlib.Omega.{arith}
use mathlib.Core.Path.{sym}
use mathlib.Core.List.{[], ◌∷◌}
use Rattle.flags.specs.declared.window.TextureFlip.TheVariants.{None, FlipU, FlipV, Rotate90, Rotate180, Rotate270}
use Rattle.flags.proofs.Enums.{unknown_first}
use Rattle.flags.proofs.window.TextureFlipFromU8.from.Goals as goal

pub returns-in_default : goal.returns-in_default
returns-in_default c = sym (unknown_first None (FlipU ∷ FlipV ∷ Rotate90 ∷ Rotate180 ∷ Rotate270 ∷ []) c.args.n (λ (h : c.args.n ≤ 5). omega arith))
