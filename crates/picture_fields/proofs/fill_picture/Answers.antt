use mathlib.Core.Path.{sym, ◌∙◌}
use Rattle.picture_fields.proofs.Run.{quads_over}
use Rattle.picture_fields.proofs.fill_picture.Goals as goal

pub returns : goal.returns
returns c = c.fill_quads.ensures ∙ sym (quads_over _ _ _ c.requires)
