use Rattle.std.proofs.Common.{length, ◌≤◌}
use Rattle.lines.proofs.program.print_all.Given as goal

abbrev pub invariant-loop : goal.invariant-loop
invariant-loop g l = l.input.count ≤ length l.chunk

abbrev pub ghost-print_line : goal.ghost-print_line
ghost-print_line g a = g.printed
