use mathlib.Core.Path.{◌≡◌}
use Prim.Native.Nat.{◌+◌, ◌-◌}
use native.Mathlib.Omega.{arith}
use Rattle.core_read.specs.Bytes.{part, number_at}
use Rattle.core_read.proofs.reader.Source.number_at.Goals as goal

pub returns : goal.returns
unfolding part number_at
returns g c = let e : c.args.at + c.WIDTH.result - c.args.at ≡ g.T.Number.WIDTH = omega (arith, c.WIDTH.ensures) in rw e at c.of_bytes.ensures
