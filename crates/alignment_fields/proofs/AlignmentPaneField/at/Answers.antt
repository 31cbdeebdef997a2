use native.Mathlib.Omega.{arith}
use mathlib.Core.Path.{refl}
use Prim.Native.Nat.{◌+◌}
use Rattle.core_read.proofs.Steps.{number_stands, after}
use Rattle.alignment_fields.specs.Alignment.{alignment_taken}
use Rattle.alignment_fields.proofs.AlignmentPaneField.at.Goals as goal

pub returns : goal.returns
unfolding alignment_taken
returns c = record {
  here = λ k e.
      let direction = number_stands _ _ _ _ (omega arith) c.number_at.ensures in
      let margin = number_stands _ _ _ _ (omega arith) c.number_at-2.ensures in
      let last = number_stands _ _ _ _ (omega arith) c.number_at-3.ensures in
      let vertical = number_stands _ _ _ _ (omega arith) c.number_at-4.ensures in
      let reserve = number_stands c.args.source.order 2 c.args.source.data.now (c.args.at + 10) (omega arith) refl in
      rw (
        direction.here k e,
        after margin k 4 (omega (arith, e)),
        after last k 8 (omega (arith, e)),
        after vertical k 9 (omega (arith, e)),
        after reserve k 10 (omega (arith, e)),
      );
}
