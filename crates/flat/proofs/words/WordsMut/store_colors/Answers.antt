use mathlib.Core.Path.{refl}
use Rattle.flat.proofs.words.WordsMut.store_colors.Goals as goal

pub returns : goal.returns
returns c = record { same = refl; stored = c.store_colors.ensures }
