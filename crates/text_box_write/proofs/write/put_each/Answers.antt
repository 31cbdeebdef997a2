use mathlib.Core.Path.{◌≡◌}
use Prim.Native.Nat.{◌*◌}
use lib.Seq.{length-take-le}
use native.Mathlib.Omega.{arith}
use Rattle.core_read.specs.Bytes.{bytes_of_all}
use Rattle.core_write.proofs.Chain.{◌then◌, puts_none, puts_as}
use Rattle.text_box_parts.specs.Parts.{column}
use Rattle.text_box_write.proofs.Columns.{column_bytes}
use Rattle.text_box_write.proofs.write.put_each.Goals as goal

pub loop-pair-init : goal.loop-pair-init
unfolding bytes_of_all column
loop-pair-init c = puts_none _

pub loop-pair-preserved : goal.loop-pair-preserved
loop-pair-preserved c =
    let a = c.args in
    let l = a.lines.now in
    let front = length-take-le (2 * a.n) l (omega arith) in
    puts_as (omega arith)
    (λ order. column_bytes order l a.k c.loop-pair.pair-index a.n _ c.as_chunks.ensures.front (omega (arith, c.as_chunks.ensures.front_len, front)) (omega arith) (omega arith))
    (c.loop-pair.invariant then c.put_number.ensures)

pub returns : goal.returns
returns c =
    let a = c.args in
    let front = length-take-le (2 * a.n) a.lines.now (omega arith) in
    let all : c.loop-pair.pair-index ≡ a.n = omega (arith, c.as_chunks.ensures.front_len, front) in
    rw all at c.loop-pair.invariant
