use mathlib.Core.Path.{refl}
use Rattle.flat.proofs.words.WordsMut.store_option.Goals as goal

pub returns : goal.returns
returns g c = record { same = refl; stored = c.store_option.ensures }
