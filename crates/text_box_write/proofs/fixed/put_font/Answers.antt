use mathlib.Core.Path.{refl, ap}
use Rattle.core_write.proofs.Chain.{◌then◌, puts_as}
use Rattle.ui2d.specs.Parts.{encode_vector2}
use Rattle.text_box_write.specs.Fixed.{encode_font}
use Rattle.text_box_write.proofs.fixed.put_font.Goals as goal

pub returns : goal.returns
unfolding encode_font
returns c =
    c.put_number.ensures
    then c.put_color.ensures
    then c.put_color-2.ensures
    then puts_as refl (λ order. ap (encode_vector2 order) c.measure_vector.ensures) c.put_vector2.ensures
    then c.put_number-2.ensures
    then c.put_number-3.ensures
    then c.put_number-4.ensures
