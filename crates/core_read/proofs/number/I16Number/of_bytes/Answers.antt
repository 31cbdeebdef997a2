use mathlib.Core.Path.{ap, ◌∙◌}
use Rattle.core_read.specs.Bytes.{signed_of}
use Rattle.core_read.proofs.Library.{signed_held}
use borrow.Author.Rules.{rules}
use Rattle.core_read.proofs.number.I16Number.of_bytes.Goals as goal

pub returns : goal.returns
returns c = signed_held c.of_bytes.result _ (search rules) c.cast_signed.ensures ∙ ap signed_of c.of_bytes.ensures
