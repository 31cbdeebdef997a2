use Rattle.flat.proofs.Storing.{loaded_none, loaded_more, loaded_all}
use borrow.Author.Rules.{rules}
use Rattle.flat.proofs.words.bytes_at.Goals as goal

pub loop-i-init : goal.loop-i-init
loop-i-init c = loaded_none _ _ _

pub loop-i-preserved : goal.loop-i-preserved
loop-i-preserved c = rw c.byte_at.ensures (loaded_more _ _ (search rules) c.loop-i.invariant)

pub shape_of-out : goal.shape_of-out
shape_of-out c = c.loop-i.invariant.long

pub returns : goal.returns
returns c = loaded_all _ _ (search rules) c.loop-i.invariant
