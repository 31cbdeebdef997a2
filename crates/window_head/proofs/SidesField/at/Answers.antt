use mathlib.Core.Path.{refl}
use Prim.Native.Nat.{◌+◌}
use native.Mathlib.Omega.{arith}
use borrow.Author.Rules.{rules}
use Rattle.core_read.proofs.Steps.{number_stands, after}
use Rattle.window_head.specs.Head.{sides_taken}
use Rattle.window_head.proofs.Signed.{kept}
use Rattle.window_head.proofs.SidesField.at.Goals as goal

pub returns : goal.returns
unfolding sides_taken
returns c = record {
  here = λ k e.
      let source = c.args.source in
      let left = number_stands source.order 2 source.«data».now c.args.at (omega arith) refl in
      let right = number_stands source.order 2 source.«data».now (c.args.at + 2) (omega arith) refl in
      let top = number_stands source.order 2 source.«data».now (c.args.at + 4) (omega arith) refl in
      let bottom = number_stands source.order 2 source.«data».now (c.args.at + 6) (omega arith) refl in
      rw (
        left.here k e,
        after right k 2 (omega (arith, e)),
        after top k 4 (omega (arith, e)),
        after bottom k 6 (omega (arith, e)),
        kept _ c.number_at.ensures (search rules),
        kept _ c.number_at-2.ensures (search rules),
        kept _ c.number_at-3.ensures (search rules),
        kept _ c.number_at-4.ensures (search rules),
      );
}
