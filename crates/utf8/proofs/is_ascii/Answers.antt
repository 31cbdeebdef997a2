use mathlib.Core.Path.{sym, ◌∙◌}
use Rattle.utf8.proofs.Ascii.{low_step, low_out}
use Rattle.utf8.proofs.is_ascii.Goals as goal

pub loop-b-preserved : goal.loop-b-preserved
loop-b-preserved c = c.loop-b.invariant ∙ low_step c.args.s.now _ c.loop-b.high c.loop-b-test.true

pub returns : goal.returns
returns c = sym (c.loop-b.invariant ∙ low_out c.args.s.now _ c.loop-b.high c.loop-b-test.false)
