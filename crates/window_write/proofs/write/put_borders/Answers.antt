use mathlib.Core.Path.{refl}
use mir.Syntax.{w16}
use mir.Val.{SFits}
use borrow.Author.Rules.{rules}
use Rattle.core_write.proofs.Chain.{◌then◌, puts_as}
use Rattle.window_write.specs.Write.{encode_borders}
use Rattle.window_write.proofs.Signed.{sides_passed}
use Rattle.window_write.proofs.write.put_borders.Goals as goal

pub returns : goal.returns
unfolding encode_borders
returns c =
    let x = c.args.x in
    let a : SFits w16 x.inflation_left = search rules in
    let b : SFits w16 x.inflation_right = search rules in
    let d : SFits w16 x.inflation_top = search rules in
    let e : SFits w16 x.inflation_bottom = search rules in
    let f : SFits w16 x.frame_size_left = search rules in
    let g : SFits w16 x.frame_size_right = search rules in
    let h : SFits w16 x.frame_size_top = search rules in
    let i : SFits w16 x.frame_size_bottom = search rules in
    puts_as refl (λ order. sides_passed order _ _ _ _ a b d e) c.put_sides.ensures
    then puts_as refl (λ order. sides_passed order _ _ _ _ f g h i) c.put_sides-2.ensures
