-- what the step puts for a line
use Rattle.lines.specs.Answered.{answer_to}
use Rattle.hexadecimal.proofs.main.Given as goal

abbrev pub ghost-print_all : goal.ghost-print_all
ghost-print_all a = answer_to
