use mathlib.Core.Path.{sym}
use borrow.Author.Rules.{rules}
use Rattle.core_write.proofs.Chain.{◌then◌}
use Rattle.pane_read.specs.Pane.{encode_pane}
use Rattle.pane.proofs.put_pane.Goals as goal

-- what the writer of its own put is what stands behind the lent one, since the reference is the same
pub returns : goal.returns
unfolding encode_pane
returns c =
    let h = c.put_head.ensures then c.put_transform.ensures in
    search (rules, h.put, sym h.same)
