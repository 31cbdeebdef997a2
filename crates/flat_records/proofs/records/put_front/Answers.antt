use mathlib.Core.Path.{refl}
use Rattle.flat.proofs.Chain.{next}
use Rattle.flat_records.proofs.records.put_front.Goals as goal

pub returns : goal.returns
returns c = (rw (← c.kind_number.ensures) (next refl c.set.ensures c.put_base.ensures.0), c.put_base.ensures.1)
