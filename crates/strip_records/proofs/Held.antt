-- Lists that are lent and filled.
use mathlib.Core.Path.{◌≡◌, refl}
use Rattle.strip_records.specs.Held.{held, Filled}
use Rattle.strip_records.specs.Whole.{Lists}
use Rattle.strip_records.specs.declared.lists.Lists.{Lists as Lent}

-- what stands in them, written in another way
pub filled_as : {a b : Lent} {l m : Lists} → Filled a b l → held b ≡ m → Filled a b m
filled_as h e = record { quads = h.quads; units = h.units; lines = h.lines; frames = h.frames; quads_long = h.quads_long; units_long = h.units_long; lines_long = h.lines_long; frames_long = h.frames_long; filled = e }

-- left as they were
pub filled_none : {a : Lent} {l : Lists} → held a ≡ l → Filled a a l
filled_none e = record { quads = refl; units = refl; lines = refl; frames = refl; quads_long = refl; units_long = refl; lines_long = refl; frames_long = refl; filled = e }
