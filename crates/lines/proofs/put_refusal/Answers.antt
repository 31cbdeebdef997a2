use Rattle.core_write.proofs.Texts.{◌then◌}
use Rattle.lines.specs.Answers.{refusal_text}
use native.Mathlib.Omega.{arith}
use Rattle.lines.proofs.put_refusal.Goals as goal

pub returns : goal.returns
unfolding refusal_text
returns c =
    let put = ((c.put_bytes.ensures then c.put_figure.ensures.put) then c.put_figure-2.ensures.put) then c.put_figure-3.ensures.put in
    record {
      put = rw (c.b-b.ensures, c.a-a.ensures, c.number.ensures) at put;
      upper_bound = omega (arith, c.put_bytes.ensures.put.place, c.put_figure.ensures.upper_bound, c.put_figure-2.ensures.upper_bound, c.put_figure-3.ensures.upper_bound);
    }
