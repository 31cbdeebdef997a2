use Rattle.text_box_parts.proofs.Run.{text_room, text_got}
use Rattle.text_box_parts.proofs.parts.text_at.Goals as goal

pub text_of-text-requires : goal.text_of-text-requires
text_of-text-requires c = text_room _ _ _ _ _ _ _ _ _ _ c.in_ok-seek.ensures c.in_ok-pass.ensures c.in_ok-seek-2.ensures

pub returns : goal.returns
returns c = text_got _ _ _ _ _ _ _ _ _ _ c.in_ok-seek.ensures c.in_ok-pass.ensures c.in_ok-seek-2.ensures _ c.text_of-text.ensures
