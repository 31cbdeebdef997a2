use Rattle.core_write.proofs.Chain.{◌then◌}
use Rattle.text_box_write.proofs.write.put_lines.Goals as goal

pub returns-in-Some : goal.returns-in-Some
returns-in-Some c = rw c.in-Some.is (c.put_padding.ensures then c.put_number.ensures then c.put_column.ensures then c.put_column-in-Some.ensures)
