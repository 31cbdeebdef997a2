use native.Mathlib.Omega.{arith}
use Rattle.strip_write.proofs.WriteKinds.{txt1_laid}
use Rattle.strip_write.proofs.write.put_txt1.Goals as goal

pub put_body-requires : goal.put_body-requires
put_body-requires c =
    let at = c.put_header.ensures.put in
    let (sound, small, low) = c.requires.good in
    (sound, omega (arith, at.place), omega (arith, low, at.place), small, rw at.place (omega (arith, c.requires.room, c.requires.length.0, at.long)))

pub put_zeros-requires : goal.put_zeros-requires
put_zeros-requires c =
    let at = c.put_header.ensures.put in
    let body = c.put_body.ensures.put in
    let end = rw at.place at body.place in
    omega (arith, c.requires.room, c.requires.length.0, c.padding_at.ensures, at.long, end, body.long)

pub returns : goal.returns
returns c =
    txt1_laid _ _ _ c.padding_at.ensures c.put_zeros.ensures c.args.own c.args.units.now c.args.lines.now c.args.label.now c.requires.length.0 c.put_header.ensures c.put_body.ensures
