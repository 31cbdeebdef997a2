use Rattle.core_write.proofs.Texts.{◌then◌}
use native.Mathlib.Omega.{arith}
use Rattle.page.specs.PageLine.{refused_text}
use Rattle.page.proofs.line.put_refused.Goals as goal

pub returns : goal.returns
unfolding refused_text
returns c = record { put = ((c.put_refusal.ensures.put then c.put_place.ensures.put) then c.put_bytes.ensures) then c.put_sentence.ensures.put; upper_bound = omega (arith, c.put_refusal.ensures.upper_bound, c.put_place.ensures.upper_bound, c.put_bytes.ensures.put.place, c.put_sentence.ensures.upper_bound) }
