use native.Mathlib.Omega.{arith}
use Rattle.strip_write.proofs.WriteKinds.{ali1_laid}
use Rattle.strip_write.proofs.write.put_ali1.Goals as goal

pub put_body-requires : goal.put_body-requires
put_body-requires c = (c.requires.0, omega (arith, c.requires.1, c.put_header.ensures.put.place, c.put_header.ensures.put.long))

pub returns : goal.returns
returns c = ali1_laid _ c.args.own c.put_header.ensures c.put_body.ensures
