use mathlib.Core.Path.{◌∙◌}
use Rattle.std.specs.Int.{w16}
use Rattle.core_read.proofs.Library.{spelled_little, spelled_big, turned2}
use Rattle.core_read.proofs.number.U16Number.of_bytes.Goals as goal

pub returns-in-Little : goal.returns-in-Little
returns-in-Little c = rw c.in-Little.is (c.from_le_bytes.ensures ∙ spelled_little w16 c.args.bytes.now c.requires)

pub returns-in-Big : goal.returns-in-Big
returns-in-Big c = rw c.in-Big.is (c.from_le_bytes-in-Big.ensures ∙ turned2 c.args.bytes.now ∙ spelled_big w16 c.args.bytes.now c.requires)
