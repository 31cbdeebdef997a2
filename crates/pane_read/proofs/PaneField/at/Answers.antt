use native.Mathlib.Omega.{arith}
use Rattle.core_read.proofs.Steps.{number_stands, after}
use Rattle.pane_read.specs.Pane.{pane_taken}
use Rattle.pane_read.proofs.PaneField.at.Goals as goal

pub returns : goal.returns
unfolding pane_taken
returns c = record {
  here = λ k e.
      let flags = number_stands _ _ _ _ (omega arith) c.number_at.ensures in
      let position = number_stands _ _ _ _ (omega arith) c.number_at-2.ensures in
      let alpha = number_stands _ _ _ _ (omega arith) c.number_at-3.ensures in
      let ex = number_stands _ _ _ _ (omega arith) c.number_at-4.ensures in
      rw (
        c.from.ensures,
        c.from-2.ensures,
        c.from-3.ensures,
        flags.here k e,
        after position k 1 (omega (arith, e)),
        after alpha k 2 (omega (arith, e)),
        after ex k 3 (omega (arith, e)),
        after c.at.ensures k 4 (omega (arith, e)),
        after c.at-2.ensures k 28 (omega (arith, e)),
        after c.at-3.ensures k 36 (omega (arith, e)),
        after c.at-4.ensures k 48 (omega (arith, e)),
        after c.at-5.ensures k 60 (omega (arith, e)),
        after c.at-6.ensures k 68 (omega (arith, e)),
      );
}
