use mathlib.Core.Path.{ap, ◌∙◌}
use Rattle.core_read.specs.Bytes.{bytes_of}
use Rattle.core_read.proofs.Library.{bits_held}
use Rattle.core_read.proofs.number.I16Number.to_bytes.Goals as goal

pub returns : goal.returns
returns c = c.to_bytes.ensures ∙ ap (bytes_of c.args.order 2) (bits_held c.args.self _ c.ranges.self c.cast_unsigned.ensures)
