use Rattle.strip_records.proofs.Bounded.{below_all}
use Rattle.strip.proofs.record.typed_u16s.Goals as goal

pub returns : goal.returns
returns c = below_all _ _ (λ i. (c.type_inv.list i).fits)
