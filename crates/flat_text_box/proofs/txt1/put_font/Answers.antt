use Rattle.flat_text_box.proofs.Lengths.{measure_end}
use mathlib.Core.Path.{refl}
use Rattle.flat.proofs.Storing.{next}
use Rattle.flat_text_box.proofs.txt1.put_font.Goals as goal

pub returns : goal.returns
returns c = next (measure_end c.args.x.font_measure) c.put_measure.ensures (next refl c.store.ensures (next refl c.store_color.ensures c.store_color-2.ensures))
