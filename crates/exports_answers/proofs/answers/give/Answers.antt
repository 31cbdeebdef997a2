use Rattle.core_read.specs.Bytes.{splice}
use Rattle.exports_answers.specs.Answers.{given}
use mathlib.Core.Path.{refl}
use lib.ListN.{length-set}
use native.Mathlib.Omega.{arith}
use Rattle.exports_answers.proofs.answers.give.Goals as goal

pub bounds-answer-1 : goal.bounds-answer-1
bounds-answer-1 c = simp length-set (omega arith)

pub bounds-answer-2 : goal.bounds-answer-2
bounds-answer-2 c = simp length-set (omega arith)

pub returns : goal.returns
unfolding given splice
returns c = refl
