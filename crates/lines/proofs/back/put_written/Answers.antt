use mathlib.Core.Path.{sym}
use lib.Seq.{length-take-le}
use native.Mathlib.Omega.{arith}
use Rattle.core_write.proofs.Texts.{◌then◌, puts_text}
use Rattle.lines.specs.Back.{written_text}
use Rattle.lines.proofs.back.put_written.Goals as goal

pub slice_bounds-put_hexadecimal-end : goal.slice_bounds-put_hexadecimal-end
slice_bounds-put_hexadecimal-end c = sym (length-take-le _ _ (c.requires.2 _ c.in-Ok.is))

pub put_hexadecimal-requires : goal.put_hexadecimal-requires
put_hexadecimal-requires c =
    let fits = c.requires.2 _ c.in-Ok.is in
    omega (arith, length-take-le _ c.args.section.now fits)

pub returns-in-Ok : goal.returns-in-Ok
unfolding written_text
returns-in-Ok c =
    let fits = c.requires.2 _ c.in-Ok.is in
    let long = length-take-le _ c.args.section.now fits in
    record { put = rw c.in-Ok.is (c.put_bytes.ensures then puts_text c.put_hexadecimal.ensures); upper_bound = omega (arith, long, c.put_bytes.ensures.put.place, c.put_hexadecimal.ensures.put.place) }

pub returns-in-Err : goal.returns-in-Err
unfolding written_text
returns-in-Err c = record { put = rw c.in-Err.is (c.put_bytes.ensures then c.put_refusal.ensures.put); upper_bound = omega (arith, c.put_bytes.ensures.put.place, c.put_refusal.ensures.upper_bound) }
