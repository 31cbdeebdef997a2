use mathlib.Core.Path.{refl, ap}
use Rattle.core_read.specs.Bytes.{bytes_of}
use Rattle.core_write.proofs.Chain.{◌then◌, puts_as}
use Rattle.window_write.specs.Write.{encode_head}
use Rattle.window_write.proofs.write.put_head.Goals as goal

pub returns : goal.returns
unfolding encode_head
returns c =
    c.put_borders.ensures
    then c.put_number.ensures
    then puts_as refl (λ order. ap (bytes_of order 1) c.from-flag.ensures) c.put_number-2.ensures
    then c.put_number-3.ensures
    then c.put_number-4.ensures
    then c.put_number-5.ensures
