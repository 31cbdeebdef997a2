use Rattle.core_write.proofs.Chain.{◌then◌}
use Rattle.text_box.specs.Body.{encode_body}
use Rattle.text_box.proofs.body.put_body.Goals as goal

pub returns : goal.returns
unfolding encode_body
returns c = c.put_pane.ensures then c.put_text_box.ensures
