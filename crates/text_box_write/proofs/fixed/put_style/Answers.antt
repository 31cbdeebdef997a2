use mathlib.Core.Path.{refl, ap, ◌∙◌}
use Rattle.core_read.specs.Bytes.{bytes_of}
use Rattle.core_write.proofs.Chain.{◌then◌, puts_as}
use Rattle.flags.specs.Fields.{text_flags_number}
use Rattle.text_box_write.specs.Fixed.{encode_style}
use Rattle.text_box_write.proofs.fixed.put_style.Goals as goal

pub returns : goal.returns
unfolding encode_style
returns c =
    puts_as refl (λ order. ap (bytes_of order 1) c.from.ensures) c.put_number.ensures
    then puts_as refl (λ order. ap (bytes_of order 1) c.from-2.ensures) c.put_number-2.ensures
    then puts_as refl (λ order. ap (bytes_of order 2) (c.from-3.ensures ∙ ap (text_flags_number _) c.measure_kind.ensures)) c.put_number-3.ensures
    then c.put_number-4.ensures
