use Rattle.window_write.specs.Write.{window_length}
use native.Mathlib.Omega.{arith}
use Rattle.window_write.proofs.write.window_length.Goals as goal

pub returns : goal.returns
unfolding window_length
returns c = omega (arith, c.content_padding-zeros.ensures)
