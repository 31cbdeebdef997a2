use native.Mathlib.Omega.{arith}
use native.Mathlib.Nat.{div-one}
use mathlib.Core.Path.{◌≡◌}
use Prim.Native.Nat.{◌/◌, ◌%◌}
use Rattle.flags.specs.Fields.{flag_ex_of}
use Rattle.flags.proofs.pane.PaneFlagsExFromU8.from.Goals as goal

pub returns : goal.returns
unfolding flag_ex_of
returns c = let five : c.args.raw / 8 % 32 ≡ c.args.raw / 8 = omega arith in
    rw (div-one c.args.raw, five)
