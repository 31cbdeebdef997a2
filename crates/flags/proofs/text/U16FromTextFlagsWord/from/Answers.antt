use Rattle.flags.specs.Fields.{text_flags_number}
use Rattle.flags.proofs.text.U16FromTextFlagsWord.from.Goals as goal

pub returns : goal.returns
unfolding text_flags_number
returns c = rw c.from.ensures at c.packed.ensures
