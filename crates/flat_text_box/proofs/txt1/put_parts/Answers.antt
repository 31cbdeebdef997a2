use Rattle.flat_text_box.proofs.Lengths.{text_end, label_end}
use Rattle.flat.proofs.Storing.{next}
use Rattle.flat_text_box.proofs.txt1.put_parts.Goals as goal

pub returns : goal.returns
returns c = next (text_end c.args.x.shadow_italic_tilt c.args.x.text) c.put_text.ensures (next (label_end c.args.x.label) c.put_label.ensures c.store_option.ensures)
