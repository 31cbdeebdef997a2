use mathlib.Core.Path.{refl}
use Rattle.digits.specs.Digits.{blank_line}
use Rattle.digits.proofs.blank_line.Goals as goal

pub returns : goal.returns
unfolding blank_line
returns c = refl
