use Rattle.core_write.proofs.Chain.{◌then◌}
use Rattle.text_box_write.specs.Fixed.{encode_indices}
use Rattle.text_box_write.proofs.fixed.put_indices.Goals as goal

pub returns : goal.returns
unfolding encode_indices
returns c = c.put_number.ensures then c.put_number-2.ensures then c.put_number-3.ensures then c.put_number-4.ensures
