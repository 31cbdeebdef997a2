use mathlib.Core.Path.{refl}
use Prim.Native.Nat.{◌+◌}
use native.Mathlib.Omega.{arith}
use Rattle.core_read.proofs.Steps.{number_stands, after}
use Rattle.window_read.specs.Window.{frame_taken}
use Rattle.window_read.proofs.WindowFrameField.at.Goals as goal

pub returns : goal.returns
unfolding frame_taken
returns c = record {
  here = λ k e.
      let material = number_stands _ _ _ _ (omega arith) c.number_at-material_index.ensures in
      let flip = number_stands _ _ _ _ (omega arith) c.number_at-flip.ensures in
      let reserve = number_stands c.args.source.order 1 c.args.source.«data».now (c.args.at + 3) (omega arith) refl in
      rw (material.here k e, after flip k 2 (omega (arith, e)), after reserve k 3 (omega (arith, e)), c.from.ensures);
}
