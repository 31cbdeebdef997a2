use Rattle.picture.proofs.Cleared.{picture_let}
use Rattle.picture.proofs.body.write_checked.Goals as goal

pub body_length-requires : goal.body_length-requires
body_length-requires c = picture_let _ c.in_ok-picture_checked.ensures
