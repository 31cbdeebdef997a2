use Rattle.core_write.proofs.Chain.{◌then◌}
use Rattle.ui2d.specs.Parts.{encode_quad}
use Rattle.ui2d.proofs.put_quad.Goals as goal

pub returns : goal.returns
unfolding encode_quad
returns c = c.put_vector2.ensures then c.put_vector2-2.ensures then c.put_vector2-3.ensures then c.put_vector2-4.ensures
