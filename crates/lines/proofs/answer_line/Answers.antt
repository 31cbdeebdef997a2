use Rattle.core_write.proofs.Texts.{◌then◌}
use Rattle.lines.specs.Answers.{section_line}
use native.Mathlib.Omega.{arith}
use Rattle.lines.proofs.answer_line.Goals as goal

pub returns : goal.returns
unfolding section_line
returns c = record { put = c.put_answer.ensures.put then c.put_bytes.ensures; upper_bound = omega (arith, c.put_answer.ensures.upper_bound, c.put_bytes.ensures.put.place) }
