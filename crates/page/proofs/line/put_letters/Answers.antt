use Rattle.page.proofs.Parts.{letters_part}
use Rattle.page.proofs.line.put_letters.Goals as goal

pub returns : goal.returns
returns c = record { put = rw (← letters_part _ _ _ _ c.min.ensures c.min-n.ensures) c.put_passed.ensures.put; upper_bound = c.put_passed.ensures.upper_bound }
