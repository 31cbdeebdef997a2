use mathlib.Core.Path.{refl}
use Rattle.flat.proofs.Storing.{next}
use Rattle.flat_kinds.proofs.wnd1.put_content.Goals as goal

pub returns : goal.returns
returns c = next refl c.store_colors.ensures c.store.ensures
