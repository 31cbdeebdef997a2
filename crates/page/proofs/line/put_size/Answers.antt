use Rattle.core_write.proofs.Texts.{◌then◌}
use native.Mathlib.Omega.{arith}
use Rattle.page.specs.PageLine.{size_text}
use Rattle.page.proofs.line.put_size.Goals as goal

pub returns : goal.returns
unfolding size_text
returns c =
    let figure = rw c.saturating_sub.ensures at c.put_figure.ensures.put in
    record {
      put = ((c.put_place.ensures.put then c.put_bytes.ensures) then figure) then c.put_bytes-2.ensures;
      upper_bound = omega (arith, c.put_place.ensures.upper_bound, c.put_bytes.ensures.put.place, c.put_figure.ensures.upper_bound, c.put_bytes-2.ensures.put.place);
    }
