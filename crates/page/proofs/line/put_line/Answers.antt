use Rattle.core_write.proofs.Texts.{◌then◌}
use native.Mathlib.Omega.{arith}
use Rattle.page.specs.PageLine.{page_line}
use Rattle.page.proofs.line.put_line.Goals as goal

pub returns : goal.returns
unfolding page_line
returns c = record { put = c.put_text.ensures.put then c.put_bytes.ensures; upper_bound = omega (arith, c.put_text.ensures.upper_bound, c.put_bytes.ensures.put.place) }
