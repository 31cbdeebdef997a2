use native.Mathlib.Omega.{arith}
use Rattle.strip_write.proofs.WriteKinds.{pic1_laid}
use Rattle.strip_write.proofs.write.put_pic1.Goals as goal

pub put_body-requires : goal.put_body-requires
put_body-requires c =
    let at = c.put_header.ensures.put in
    (c.requires.good.0, c.requires.good.1, omega (arith, c.requires.room, c.requires.length.0, at.place, at.long))

pub put_zeros-requires : goal.put_zeros-requires
put_zeros-requires c =
    let at = c.put_header.ensures.put in
    let body = c.put_body.ensures.put in
    omega (arith, c.requires.room, c.requires.length.0, c.padding_at.ensures, at.place, at.long, body.place, body.long)

pub returns : goal.returns
returns c = pic1_laid _ _ _ c.padding_at.ensures c.put_zeros.ensures c.args.own c.args.quads.now c.requires.length.0 c.put_header.ensures c.put_body.ensures
