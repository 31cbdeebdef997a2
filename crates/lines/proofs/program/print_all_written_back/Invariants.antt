-- what the step puts for a line
use Rattle.lines.specs.Back.{back_to}
use Rattle.lines.proofs.program.print_all_written_back.Given as goal

abbrev pub ghost-print_all : goal.ghost-print_all
ghost-print_all g a = back_to
