use mathlib.Core.Path.{sym}
use lib.Seq.{length-take-le, take_all}
use native.Mathlib.Nat.{le_of_lt}
use Rattle.pane_checks.proofs.checks.text_of.Goals as goal

pub slice_bounds-result-end : goal.slice_bounds-result-end
slice_bounds-result-end c = sym (length-take-le _ _ c.if-count-bytes.true)

pub returns-else-count-bytes : goal.returns-else-count-bytes
returns-else-count-bytes c = sym (take_all _ _ (le_of_lt c.if-count-bytes.false))
