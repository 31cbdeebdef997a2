use Rattle.core_write.proofs.Texts.{◌then◌}
use native.Mathlib.Omega.{arith}
use Rattle.page.specs.PageLine.{pass_text}
use Rattle.page.proofs.line.put_passed.Goals as goal

pub returns : goal.returns
unfolding pass_text
returns c = record { put = (c.put_bytes.ensures then c.put_quoted.ensures.put) then c.put_size.ensures.put; upper_bound = omega (arith, c.put_bytes.ensures.put.place, c.put_quoted.ensures.upper_bound, c.put_size.ensures.upper_bound) }
