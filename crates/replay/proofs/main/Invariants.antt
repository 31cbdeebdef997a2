-- what the step puts for a line
use Rattle.lines.specs.Back.{back_to}
use Rattle.replay.proofs.main.Given as goal

abbrev pub ghost-print_all : goal.ghost-print_all
ghost-print_all a = back_to
