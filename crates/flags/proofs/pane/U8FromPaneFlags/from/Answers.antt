use native.Mathlib.Omega.{arith}
use Rattle.flags.specs.Fields.{pane_flags_number}
use Rattle.flags.proofs.Fields.{pane_flags_fit}
use Rattle.flags.proofs.pane.U8FromPaneFlags.from.Goals as goal

pub overflow_cast-result : goal.overflow_cast-result
unfolding pane_flags_number
overflow_cast-result c = omega (arith, pane_flags_fit c.args.flags, c.packed.ensures)

pub returns : goal.returns
unfolding pane_flags_number
returns c = c.packed.ensures
