use mathlib.Core.Path.{refl}
use Rattle.flat.proofs.words.WordsMut.store_color.Goals as goal

pub returns : goal.returns
returns c = record { same = refl; stored = c.store_color.ensures }
