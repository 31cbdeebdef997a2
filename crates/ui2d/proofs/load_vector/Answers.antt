use Rattle.ui2d.specs.Quads.{vector_at}
use borrow.Author.Rules.{rules}
use Rattle.ui2d.proofs.load_vector.Goals as goal

pub returns : goal.returns
unfolding vector_at
returns c = search rules
