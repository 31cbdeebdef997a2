use mathlib.Core.Path.{refl, sym, ap, ◌∙◌}
use Rattle.core_read.proofs.Runs.{seek_got, seek_beyond}
use Rattle.core_read.proofs.reader.Reader.seek.Goals as goal
use Rattle.std.specs.Prelude.{Ok}

pub returns-then-to-length : goal.returns-then-to-length
returns-then-to-length c = (refl, sym (ap Ok c.moved-self.ensures ∙ seek_got _ _ _ _ refl c.if-to-length.true))

pub returns : goal.returns
returns c = rw c.run_out.ensures (sym (seek_beyond _ _ _ _ refl c.if-to-length.false))
