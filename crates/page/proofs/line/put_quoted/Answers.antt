use Rattle.core_write.proofs.Texts.{◌then◌}
use native.Mathlib.Omega.{arith}
use Rattle.page.specs.PageLine.{quoted}
use Rattle.page.proofs.line.put_quoted.Goals as goal

pub returns : goal.returns
unfolding quoted
returns c = record { put = (c.put_bytes.ensures then c.put_escaped.ensures.put) then c.put_bytes-2.ensures; upper_bound = omega (arith, c.put_bytes.ensures.put.place, c.put_escaped.ensures.upper_bound, c.put_bytes-2.ensures.put.place) }
