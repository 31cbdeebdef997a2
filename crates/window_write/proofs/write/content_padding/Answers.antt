use Prim.Native.Nat.{◌+◌, ◌*◌}
use Rattle.window_write.specs.Write.{content_padding}
use Rattle.core_write.proofs.Padding.{padding_small}
use native.Mathlib.Omega.{arith}
use Rattle.window_write.proofs.write.content_padding.Goals as goal

pub returns : goal.returns
unfolding content_padding
returns c = (c.padding_at.ensures, omega (arith, c.padding_at.ensures, padding_small (c.args.body + 124 + 4 * c.args.quads)))
