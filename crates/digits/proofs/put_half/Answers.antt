use borrow.Author.Tests.{lt-ltb, le-ltb}
use Rattle.digits.specs.Digits.{half_put}
use Rattle.digits.proofs.put_half.Goals as goal

pub returns-then-high : goal.returns-then-high
unfolding half_put
returns-then-high c = simp (lt-ltb _ _ c.if-at-bytes.true, c.if-high.true)

pub returns-else-high : goal.returns-else-high
unfolding half_put
returns-else-high c = simp (lt-ltb _ _ c.if-at-bytes.true, c.if-high.false, c.joined.ensures)

pub returns-else-at-bytes : goal.returns-else-at-bytes
unfolding half_put
returns-else-at-bytes c = simp (le-ltb _ _ c.if-at-bytes.false)
