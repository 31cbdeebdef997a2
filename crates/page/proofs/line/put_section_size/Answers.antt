use Rattle.core_write.proofs.Texts.{◌then◌}
use native.Mathlib.Omega.{arith}
use Rattle.page.specs.PageLine.{section_size_text}
use Rattle.page.proofs.line.put_section_size.Goals as goal

pub returns : goal.returns
unfolding section_size_text
returns c = record { put = (((c.put_bytes.ensures then c.put_decimal.ensures.put) then c.put_bytes-2.ensures) then c.put_decimal-2.ensures.put) then c.put_bytes-3.ensures; upper_bound = omega (arith, c.put_bytes.ensures.put.place, c.put_decimal.ensures.upper_bound, c.put_bytes-2.ensures.put.place, c.put_decimal-2.ensures.upper_bound, c.put_bytes-3.ensures.put.place) }
