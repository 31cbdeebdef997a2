use mathlib.Core.Path.{sym}
use borrow.Author.Rules.{rules}
use Rattle.core_write.proofs.Chain.{◌then◌}
use Rattle.text_box_write.specs.Fixed.{encode_fixed}
use Rattle.text_box_write.proofs.fixed.put_fixed.Goals as goal

-- what the writer of its own put is what stands behind the lent one, since the reference is the same
pub returns : goal.returns
unfolding encode_fixed
returns c =
    let h = c.put_indices.ensures then c.put_style.ensures then c.put_font.ensures then c.put_shadow.ensures in
    search (rules, h.put, sym h.same)
