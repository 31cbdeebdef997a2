use native.Mathlib.Nat.{add_assoc}
use Rattle.core_read.specs.Bytes.{splice}
use Rattle.ui2d.specs.Quads.{vector_bits, quad_bits}
use Rattle.ui2d.proofs.store_quad.Goals as goal

pub returns : goal.returns
unfolding splice quad_bits vector_bits
returns c = simp add_assoc
