use mathlib.Core.Path.{refl}
use Rattle.digits.specs.Digits.{bad_line}
use Rattle.digits.proofs.bad_line.Goals as goal

pub returns : goal.returns
unfolding bad_line
returns c = refl
