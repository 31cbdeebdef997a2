use native.Mathlib.Omega.{arith}
use Rattle.core_write.proofs.Chain.{puts_fixed}
use Rattle.core_write.proofs.writer.Writer.put_string.Goals as goal

pub returns : goal.returns
returns c = puts_fixed (omega arith) c.put_bytes.ensures c.put_zeros.ensures
