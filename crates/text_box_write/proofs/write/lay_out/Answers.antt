use Rattle.text_box_write.specs.Written.{layout_of}
use native.Mathlib.Omega.{arith}
use Rattle.text_box_write.proofs.Parted.{label_offset, lines_offset}
use Rattle.text_box_write.proofs.write.lay_out.Goals as goal

pub returns : goal.returns
unfolding layout_of
returns c = (
  rw (lines_offset _ _ _ _ c.args.lines.now c.part_offset-2.ensures, label_offset _ _ _ _ c.args.label.now c.part_offset.ensures, c.text_offset.ensures, c.lines_width-table.ensures.0, c.label_width-name.ensures.0, c.text_width-text.ensures.0),
  omega (arith, c.lines_width-table.ensures.1, c.label_width-name.ensures.1, c.text_width-text.ensures.1),
)
