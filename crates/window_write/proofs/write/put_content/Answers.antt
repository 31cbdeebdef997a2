use mathlib.Core.Path.{refl}
use Rattle.core_write.proofs.Chain.{◌then◌, puts_as}
use Rattle.window_write.specs.Write.{encode_content}
use native.Mathlib.Omega.{arith}
use Rattle.window_write.proofs.write.put_content.Goals as goal

pub returns : goal.returns
unfolding encode_content
returns c =
    puts_as (omega arith) (λ order. refl)
    (c.put_colors.ensures then c.put_number.ensures then c.put_number-2.ensures then c.put_number-3.ensures then c.put_quads.ensures)
