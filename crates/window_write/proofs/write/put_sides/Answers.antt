use lib.IntN.{ℤ}
use mir.Syntax.{w16}
use mir.Val.{SFits}
use mathlib.Core.Path.{refl, ap}
use mir.Facts.{to_z-of_z}
use borrow.Author.Rules.{rules}
use Rattle.core_read.specs.Bytes.{bytes_of, bits_of}
use Rattle.core_write.proofs.Chain.{◌then◌, puts_as}
use Rattle.window_write.specs.Write.{encode_sides}
use Rattle.window_write.proofs.write.put_sides.Goals as goal

pub returns : goal.returns
unfolding encode_sides
returns c =
    let left : SFits w16 c.args.v.left = search rules in
    let right : SFits w16 c.args.v.right = search rules in
    let top : SFits w16 c.args.v.top = search rules in
    let bottom : SFits w16 c.args.v.bottom = search rules in
    puts_as refl (λ order. ap (λ (z : ℤ). bytes_of order 2 (bits_of z)) (to_z-of_z left)) c.put_number.ensures
    then puts_as refl (λ order. ap (λ (z : ℤ). bytes_of order 2 (bits_of z)) (to_z-of_z right)) c.put_number-2.ensures
    then puts_as refl (λ order. ap (λ (z : ℤ). bytes_of order 2 (bits_of z)) (to_z-of_z top)) c.put_number-3.ensures
    then puts_as refl (λ order. ap (λ (z : ℤ). bytes_of order 2 (bits_of z)) (to_z-of_z bottom)) c.put_number-4.ensures
