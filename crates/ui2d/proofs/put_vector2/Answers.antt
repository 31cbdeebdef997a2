use Rattle.core_write.proofs.Chain.{◌then◌}
use Rattle.ui2d.specs.Parts.{encode_vector2}
use Rattle.ui2d.proofs.put_vector2.Goals as goal

pub returns : goal.returns
unfolding encode_vector2
returns c = c.put_number.ensures then c.put_number-2.ensures
