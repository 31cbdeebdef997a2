use Rattle.escapes.proofs.is_written_out.Goals as goal

pub returns-then-ascii : goal.returns-then-ascii
returns-then-ascii c = simp c.if-ascii.true

pub returns-else-ascii : goal.returns-else-ascii
returns-else-ascii c = simp (c.if-ascii.false, c.hidden.ensures)
