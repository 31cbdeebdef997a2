use mathlib.Core.Path.{refl}
use Rattle.flat.proofs.Storing.{stored_one}
use Rattle.flat.proofs.words.WordsMut.set.Goals as goal

pub returns : goal.returns
returns c = record { same = refl; stored = stored_one _ _ _ }
