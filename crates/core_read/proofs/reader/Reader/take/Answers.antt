use mathlib.Core.Path.{refl}
use Rattle.core_read.proofs.reader.Reader.take.Goals as goal

pub returns-then-width-length : goal.returns-then-width-length
returns-then-width-length g c = (refl, rw (c.advanced-self.ensures, c.WIDTH-width.ensures) (c.at-value.ensures.here _ refl))
