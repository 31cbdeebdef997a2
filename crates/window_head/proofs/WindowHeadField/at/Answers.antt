use native.Mathlib.Omega.{arith}
use mathlib.Core.Path.{refl}
use Prim.Native.Nat.{◌+◌}
use Rattle.core_read.proofs.Steps.{number_stands, after}
use Rattle.window_head.specs.Head.{head_taken}
use Rattle.window_head.proofs.WindowHeadField.at.Goals as goal

pub returns : goal.returns
unfolding head_taken
returns c = record {
  here = λ k e.
      let count = number_stands _ _ _ _ (omega arith) c.number_at-frame_count.ensures in
      let flag = number_stands _ _ _ _ (omega arith) c.number_at-flag.ensures in
      let reserve = number_stands c.args.source.order 2 c.args.source.«data».now (c.args.at + 18) (omega arith) refl in
      let content = number_stands _ _ _ _ (omega arith) c.number_at-content_offset.ensures in
      let table = number_stands _ _ _ _ (omega arith) c.number_at-table_offset.ensures in
      rw (
        c.at-inflation.ensures.here k e,
        after c.at-frame_size.ensures k 8 (omega (arith, e)),
        after count k 16 (omega (arith, e)),
        after flag k 17 (omega (arith, e)),
        after reserve k 18 (omega (arith, e)),
        after content k 20 (omega (arith, e)),
        after table k 24 (omega (arith, e)),
        c.from.ensures,
      );
}
