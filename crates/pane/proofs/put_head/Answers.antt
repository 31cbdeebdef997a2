use mathlib.Core.Path.{refl, ap}
use Rattle.core_read.specs.Bytes.{bytes_of}
use Rattle.core_write.proofs.Chain.{◌then◌, puts_as}
use Rattle.pane_read.specs.Pane.{encode_head}
use Rattle.pane.proofs.put_head.Goals as goal

pub returns : goal.returns
unfolding encode_head
returns c = puts_as refl (λ order. ap (bytes_of order 1) c.from.ensures) c.put_number.ensures
    then puts_as refl (λ order. ap (bytes_of order 1) c.from-2.ensures) c.put_number-2.ensures
    then c.put_number-3.ensures
    then puts_as refl (λ order. ap (bytes_of order 1) c.from-3.ensures) c.put_number-4.ensures
    then c.put_fixed_string.ensures
    then c.put_fixed_string-2.ensures
