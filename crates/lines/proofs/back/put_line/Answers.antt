use mathlib.Core.Path.{refl}
use Rattle.lines.specs.Answered.{full_lists}
use Rattle.lines.proofs.back.put_line.Goals as goal

pub put_section-requires : goal.put_section-requires
unfolding full_lists
put_section-requires c = (c.requires, refl)
