use Rattle.core_write.proofs.Chain.{◌then◌}
use Rattle.picture.specs.Body.{encode_body, body_length}
use Rattle.picture.proofs.body.put_body.Goals as goal

pub returns : goal.returns
unfolding encode_body body_length
returns c = c.put_pane.ensures then c.put_picture.ensures
