use Rattle.core_write.proofs.Texts.{◌then◌}
use Rattle.escapes.specs.Escaped.{written_out}
use Rattle.escapes.proofs.put_written_out.Goals as goal

pub returns : goal.returns
unfolding written_out
returns c = c.put_bytes.ensures then c.put_hex_digits.ensures
