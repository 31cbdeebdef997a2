use Rattle.core_read.proofs.Library.{spelled_byte}
use Rattle.core_read.proofs.number.U8Number.of_bytes.Goals as goal

pub returns : goal.returns
returns c = spelled_byte c.args._order c.args.bytes.now c.requires
