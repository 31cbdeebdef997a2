use mathlib.Core.Path.{refl}
use Rattle.flat.proofs.Storing.{next}
use Rattle.flat_text_box.proofs.txt1.put_shadow.Goals as goal

pub returns : goal.returns
returns c = next refl c.store.ensures (next refl c.store_color.ensures c.store_color-2.ensures)
