use Rattle.core_read.specs.Taken.{start}
use borrow.Author.Rules.{rules}
use Rattle.core_read.proofs.cursor.Cursor.start.Goals as goal

pub returns : goal.returns
unfolding start
returns c = search rules
