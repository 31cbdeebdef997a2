use Rattle.std.proofs.Common.{arith}
use Rattle.std.proofs.lemmas.Bool.Decides.{nat_tests}
use Rattle.escapes.specs.Escaped.{control}
use Rattle.escapes.proofs.is_control.Goals as goal

pub returns : goal.returns
unfolding control
returns c = grind (arith, nat_tests)
