use Rattle.core_read.proofs.Library.{bits_held}
use Rattle.core_read.proofs.signed.bits_of.Goals as goal

pub returns : goal.returns
returns c = bits_held c.args.x _ c.ranges.x c.cast_unsigned.ensures
