use Rattle.digits.specs.Digits.{even_line}
use Rattle.digits.proofs.spells.Goals as goal

pub returns-then-line : goal.returns-then-line
unfolding even_line
returns-then-line c = simp c.if-line.true

pub returns : goal.returns
unfolding even_line
returns c = simp c.if-line.false
