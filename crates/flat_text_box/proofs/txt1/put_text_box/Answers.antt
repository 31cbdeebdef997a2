use Rattle.flat_text_box.proofs.Lengths.{font_end}
use Rattle.flat_text_box.specs.TextBox.{text_box_words}
use mathlib.Core.Path.{refl}
use Rattle.flat.proofs.Storing.{next}
use Rattle.flat_text_box.proofs.txt1.put_text_box.Goals as goal

pub returns : goal.returns
unfolding text_box_words
returns c = record { same = refl; stored = next refl c.put_indices.ensures (next refl c.put_flags.ensures (next (font_end c.args.x) c.put_font.ensures (next refl c.put_shadow.ensures c.put_parts.ensures))) }
