use Rattle.text_box_parts.proofs.Pairs.{Paired}
use Rattle.text_box_parts.proofs.parts.fill_pairs.Given as goal

abbrev pub invariant-loop-i : goal.invariant-loop-i
invariant-loop-i l = Paired l.source.order l.source.«data».now l.at l.n l.initial.out l.out l.i
