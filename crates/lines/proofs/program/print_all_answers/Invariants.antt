-- what the step puts for a line
use Rattle.lines.specs.Answered.{answer_to}
use Rattle.lines.proofs.program.print_all_answers.Given as goal

abbrev pub ghost-print_all : goal.ghost-print_all
ghost-print_all g a = answer_to
