use mathlib.Core.Path.{sym}
use Rattle.escapes.specs.Escaped.{hidden_width}
use Rattle.escapes.proofs.hidden_width.Goals as goal

pub returns-then-a-b : goal.returns-then-a-b
unfolding hidden_width
returns-then-a-b c = simp (sym c.byte_at-a.ensures, sym c.byte_at-b.ensures, c.if-a-b.true)

pub returns-then-a-b-2 : goal.returns-then-a-b-2
unfolding hidden_width
returns-then-a-b-2 c = simp (sym c.byte_at-a.ensures, sym c.byte_at-b.ensures, sym c.byte_at-c.ensures, c.if-a-b.false, c.if-a-b-2.true)

pub returns : goal.returns
unfolding hidden_width
returns c = simp (sym c.byte_at-a.ensures, sym c.byte_at-b.ensures, sym c.byte_at-c.ensures, c.if-a-b.false, c.if-a-b-2.false)
