use Rattle.core_write.proofs.writer.Writer.put_padding.Goals as goal

pub returns : goal.returns
returns c = rw (← c.padding_at.ensures) c.put_zeros.ensures
