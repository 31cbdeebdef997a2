use native.Mathlib.Nat.{le_trans}
use lib.Bits.{and_le_r}
use lib.Dec.{lit≤}
use Rattle.core_write.proofs.Padding.{padding_low_bits}
use Rattle.core_write.proofs.writer.padding_at.Goals as goal

pub overflow_sub-result : goal.overflow_sub-result
overflow_sub-result c = le_trans (and_le_r c.args.p _) (lit≤ tt)

pub returns : goal.returns
returns c = padding_low_bits c.args.p
