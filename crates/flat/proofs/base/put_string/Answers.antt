use mathlib.Core.Path.{refl}
use Rattle.flat.proofs.Storing.{next, stored_one}
use Rattle.flat.proofs.base.put_string.Goals as goal

pub returns : goal.returns
returns c = next refl (stored_one _ _ _) c.store_bytes.ensures
