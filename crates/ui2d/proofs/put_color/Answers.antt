use Rattle.core_write.proofs.Chain.{◌then◌}
use Rattle.ui2d.specs.Parts.{encode_color}
use Rattle.ui2d.proofs.put_color.Goals as goal

pub returns : goal.returns
unfolding encode_color
returns c = c.put_number.ensures then c.put_number-2.ensures then c.put_number-3.ensures then c.put_number-4.ensures
