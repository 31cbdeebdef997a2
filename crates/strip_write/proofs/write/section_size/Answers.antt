use Rattle.core_read.specs.Bytes.{padding}
use Rattle.strip_write.specs.Write.{section_size}
use native.Mathlib.Omega.{arith}
use Rattle.strip_write.proofs.write.section_size.Goals as goal

pub overflow_add-result-2 : goal.overflow_add-result-2
unfolding padding
overflow_add-result-2 c = omega arith

pub returns : goal.returns
unfolding section_size
returns c = omega arith
