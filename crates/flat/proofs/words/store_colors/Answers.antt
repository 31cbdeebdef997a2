use mathlib.Core.Path.{refl}
use native.Mathlib.Omega.{arith}
use Rattle.flat.proofs.Storing.{next}
use Rattle.flat.proofs.words.store_colors.Goals as goal

pub returns : goal.returns
returns c =
    next refl c.store_color.ensures (next (omega arith) c.store_color-2.ensures (next (omega arith) c.store_color-3.ensures c.store_color-4.ensures))
