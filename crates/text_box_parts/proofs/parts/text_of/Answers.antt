use Rattle.text_box_parts.proofs.parts.text_of.Goals as goal

pub returns-then-formed : goal.returns-then-formed
returns-then-formed c = rw (← c.well_formed_at-formed.ensures, c.if-formed.true)

pub returns-else-formed : goal.returns-else-formed
returns-else-formed c = rw (← c.well_formed_at-formed.ensures, c.if-formed.false)
