use mathlib.Core.Path.{◌≡◌, refl}
use lib.ListN.{length}
use Rattle.core_write.proofs.Chain.{◌then◌, puts_as}
use Rattle.ui2d.proofs.Colors.{corner_bytes}
use borrow.Author.Rules.{rules}
use Rattle.ui2d.proofs.put_colors.Goals as goal

pub returns : goal.returns
returns c =
    -- the array's length
    let long : length c.args.v ≡ 4 = search rules in
    puts_as refl (λ order. corner_bytes order _ long) (c.put_color.ensures then c.put_color-2.ensures then c.put_color-3.ensures then c.put_color-4.ensures)
