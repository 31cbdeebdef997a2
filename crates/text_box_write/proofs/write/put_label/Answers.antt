use mathlib.Core.Path.{refl, sym}
use native.Mathlib.Omega.{arith}
use Rattle.core_read.proofs.Numbers.{byte_bytes}
use Rattle.core_write.proofs.Chain.{◌then◌, puts_as}
use Rattle.text_box_write.proofs.write.put_label.Goals as goal

pub returns-in-Some : goal.returns-in-Some
returns-in-Some c =
    rw c.in-Some.is (c.put_padding.ensures then c.put_bytes.ensures then puts_as refl (λ order. sym (byte_bytes order 0 (omega arith))) c.put_number.ensures)
