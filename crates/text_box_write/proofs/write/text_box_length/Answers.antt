use mathlib.Core.Path.{ap}
use Rattle.text_box_write.specs.declared.write.Layout.{Layout}
use Rattle.text_box_write.specs.Written.{layout_of, text_box_length}
use Rattle.text_box_write.proofs.write.text_box_length.Goals as goal

pub returns : goal.returns
unfolding layout_of text_box_length
returns c = (ap (λ (l : Layout). l.length) c.lay_out.ensures.0, c.lay_out.ensures.1)
