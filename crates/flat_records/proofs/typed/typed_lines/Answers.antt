use Rattle.flat_records.proofs.typed.typed_lines.Goals as goal

pub returns-in-None : goal.returns-in-None
returns-in-None c = rw c.in-None.is tt

pub returns-in-Some : goal.returns-in-Some
returns-in-Some c = rw c.in-Some.is c.typed_byte.ensures
