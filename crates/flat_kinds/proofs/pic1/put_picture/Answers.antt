use Rattle.flat_kinds.specs.Own.{picture_words}
use mathlib.Core.Path.{refl}
use Rattle.flat.proofs.Storing.{next}
use Rattle.flat_kinds.proofs.pic1.put_picture.Goals as goal

pub returns : goal.returns
unfolding picture_words
returns c = record { same = refl; stored = next refl c.store_colors.ensures (next refl c.store.ensures c.store_option.ensures) }
