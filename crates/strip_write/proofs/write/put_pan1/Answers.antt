use native.Mathlib.Omega.{arith}
use Rattle.strip_write.proofs.WriteKinds.{pan1_laid}
use Rattle.strip_write.proofs.write.put_pan1.Goals as goal

pub put_pane-requires : goal.put_pane-requires
put_pane-requires c = (c.requires.0, omega (arith, c.requires.1, c.put_header.ensures.put.place, c.put_header.ensures.put.long))

pub returns : goal.returns
returns c = pan1_laid _ c.put_header.ensures c.put_pane.ensures
