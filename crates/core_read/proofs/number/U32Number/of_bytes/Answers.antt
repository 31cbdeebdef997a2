use mathlib.Core.Path.{◌∙◌}
use Rattle.std.specs.Int.{w32}
use Rattle.core_read.proofs.Library.{spelled_little, spelled_big, turned4}
use Rattle.core_read.proofs.number.U32Number.of_bytes.Goals as goal

pub returns-in-Little : goal.returns-in-Little
returns-in-Little c = rw c.in-Little.is (c.from_le_bytes.ensures ∙ spelled_little w32 c.args.bytes.now c.requires)

pub returns-in-Big : goal.returns-in-Big
returns-in-Big c = rw c.in-Big.is (c.from_le_bytes-in-Big.ensures ∙ turned4 c.args.bytes.now ∙ spelled_big w32 c.args.bytes.now c.requires)
