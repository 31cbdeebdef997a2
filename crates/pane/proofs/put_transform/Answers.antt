use Rattle.core_write.proofs.Chain.{◌then◌}
use Rattle.pane_read.specs.Pane.{encode_transform}
use Rattle.pane.proofs.put_transform.Goals as goal

pub returns : goal.returns
unfolding encode_transform
returns c = c.put_vector3.ensures
    then c.put_vector3-2.ensures
    then c.put_vector2.ensures
    then c.put_vector2-2.ensures
