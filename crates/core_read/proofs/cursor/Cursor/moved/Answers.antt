use Rattle.core_read.specs.Taken.{moved}
use borrow.Author.Rules.{rules}
use Rattle.core_read.proofs.cursor.Cursor.moved.Goals as goal

pub returns : goal.returns
unfolding moved
returns c = search rules
