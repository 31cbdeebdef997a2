use mathlib.Core.Path.{◌∙◌}
use Rattle.std.specs.Int.{w32}
use Rattle.core_read.proofs.Library.{bytes_little, bytes_big}
use Rattle.core_read.proofs.number.U32Number.to_bytes.Goals as goal

pub returns-in-Little : goal.returns-in-Little
returns-in-Little c = rw c.in-Little.is (c.copy_from_slice.ensures.after ∙ c.to_le_bytes.ensures ∙ bytes_little w32 c.args.self)

pub returns-in-Big : goal.returns-in-Big
returns-in-Big c = rw c.in-Big.is (c.copy_from_slice-in-Big.ensures.after ∙ c.to_be_bytes.ensures ∙ bytes_big w32 c.args.self)
