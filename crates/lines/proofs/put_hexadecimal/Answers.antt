use mathlib.Core.Path.{sym}
use native.Mathlib.Omega.{arith}
use Rattle.core_write.proofs.Chain.{◌then◌, puts_none, puts_as}
use Rattle.lines.specs.Hexadecimal.{hexadecimal}
use Rattle.lines.proofs.Hexadecimals.{hexadecimal_more}
use Rattle.lines.proofs.put_hexadecimal.Goals as goal

pub loop-b-init : goal.loop-b-init
unfolding hexadecimal
loop-b-init c = puts_none _

pub loop-b-preserved : goal.loop-b-preserved
loop-b-preserved c =
    puts_as (omega arith) (λ order. sym (hexadecimal_more c.args.s.now c.loop-b.b-index (omega arith))) (c.loop-b.invariant then c.put_hex_digits.ensures)
