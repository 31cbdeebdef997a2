use Rattle.core_read.proofs.Library.{signed_held}
use borrow.Author.Rules.{rules}
use Rattle.core_read.proofs.signed.signed_of.Goals as goal

pub returns : goal.returns
returns c = signed_held c.args.v _ (search rules) c.cast_signed.ensures
