use lib.ListN.{length-replicate}
use Rattle.flat.proofs.base.string_of.Goals as goal

pub returns : goal.returns
returns g c = rw (c.bytes_at.ensures, length-replicate)
