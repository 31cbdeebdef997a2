use Rattle.lines.specs.Answers.{bad_text}
use Rattle.lines.proofs.bad_line.Goals as goal

pub returns : goal.returns
unfolding bad_text
returns c = c.put_bytes.ensures
