use mathlib.Core.Path.{refl}
use Rattle.flat.proofs.words.WordsMut.store_bytes.Goals as goal

pub returns : goal.returns
returns c = record { same = refl; stored = c.store_bytes.ensures }
