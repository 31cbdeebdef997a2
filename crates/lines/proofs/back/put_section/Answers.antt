use native.Mathlib.Omega.{arith}
use Rattle.core_write.proofs.Texts.{◌then◌, puts_named}
use Rattle.lines.proofs.Made.{line_made, full_long}
use Rattle.lines.proofs.back.put_section.Goals as goal

pub put_after-requires : goal.put_after-requires
put_after-requires c =
    let read = c.read_section-read.ensures.lists_after in
    (omega (arith, c.put_answer.ensures.upper_bound, c.put_answer.ensures.put.put.long, c.requires.0), full_long c.requires.1 read)

pub put_bytes-requires : goal.put_bytes-requires
put_bytes-requires c = omega (arith, c.put_after.ensures.upper_bound, c.put_after.ensures.put.put.long, c.put_answer.ensures.upper_bound, c.put_answer.ensures.put.put.long, c.requires.0)

pub returns : goal.returns
returns c =
    let read = c.read_section-read.ensures in
    let answer = c.put_answer.ensures in
    let after = c.put_after.ensures in
    let put = (answer.put then after.put) then c.put_bytes.ensures in
    let value = rw c.requires.1 at read.value in
    let lists = rw c.requires.1 at read.lists_after.filled in
    record {
      put = puts_named (line_made c.args.«data».now value lists c.label-label.ensures.result_value) put;
      upper_bound = omega (arith, answer.upper_bound, after.upper_bound, c.put_bytes.ensures.put.place);
    }
