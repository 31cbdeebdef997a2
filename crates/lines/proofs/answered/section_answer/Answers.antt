use mathlib.Core.Path.{ap}
use Rattle.strip_read.specs.declared.read.SectionRead.{SectionRead}
use Rattle.lines.specs.Answered.{answer_of, full_lists}
use Rattle.lines.proofs.answered.section_answer.Goals as goal

pub returns : goal.returns
unfolding answer_of full_lists
returns c = ap (λ (r : SectionRead). r.answer) c.read_section.ensures.value
