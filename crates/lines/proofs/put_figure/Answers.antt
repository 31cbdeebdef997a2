use Rattle.core_write.proofs.Texts.{◌then◌}
use Rattle.lines.specs.Answers.{figure}
use native.Mathlib.Omega.{arith}
use Rattle.lines.proofs.put_figure.Goals as goal

pub returns : goal.returns
unfolding figure
returns c = record { put = c.put_bytes.ensures then c.put_decimal.ensures.put; upper_bound = omega (arith, c.put_bytes.ensures.put.place, c.put_decimal.ensures.upper_bound) }
