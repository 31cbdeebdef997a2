use Rattle.utf16.proofs.breaks.Goals as goal

pub returns-then-waits : goal.returns-then-waits
returns-then-waits c = rw (c.if-waits.true, c.low_surrogate-low.ensures)

pub returns-else-waits : goal.returns-else-waits
returns-else-waits c = rw (c.if-waits.false, c.low_surrogate-low.ensures)
