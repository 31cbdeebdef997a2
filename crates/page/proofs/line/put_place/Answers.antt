use Rattle.core_write.proofs.Texts.{◌then◌}
use native.Mathlib.Omega.{arith}
use Rattle.page.specs.PageLine.{place_text}
use Rattle.page.proofs.line.put_place.Goals as goal

pub returns : goal.returns
unfolding place_text
returns c = record { put = c.put_bytes.ensures then c.put_figure.ensures.put; upper_bound = omega (arith, c.put_bytes.ensures.put.place, c.put_figure.ensures.upper_bound) }
