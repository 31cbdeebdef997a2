use Rattle.core_write.proofs.Chain.{◌then◌}
use Rattle.text_box_write.specs.Fixed.{encode_shadow}
use Rattle.text_box_write.proofs.fixed.put_shadow.Goals as goal

pub returns : goal.returns
unfolding encode_shadow
returns c =
    c.put_vector2.ensures
    then c.put_vector2-2.ensures
    then c.put_color.ensures
    then c.put_color-2.ensures
    then c.put_number.ensures
    then c.put_number-2.ensures
    then c.put_number-3.ensures
