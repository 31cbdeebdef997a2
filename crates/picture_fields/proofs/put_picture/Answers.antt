use mathlib.Core.Path.{sym}
use borrow.Author.Rules.{rules}
use Rattle.core_write.proofs.Chain.{◌then◌}
use Rattle.picture_fields.proofs.Run.{picture_put}
use Rattle.picture_fields.proofs.put_picture.Goals as goal

-- what the writer of its own put is what stands behind the lent one, since the reference is the same
pub returns : goal.returns
returns c =
    let h = picture_put c.args.x c.args.quads.now _ c.shape_byte.ensures
    (c.put_colors.ensures then c.put_number.ensures then c.put_number-2.ensures then c.put_number-3.ensures then c.put_quads.ensures then c.put_shape.ensures) in
    search (rules, h.put, sym h.same)
