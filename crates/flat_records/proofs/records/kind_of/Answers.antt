use Rattle.flat_records.proofs.RecordLengths.{kind_last}
use native.Mathlib.Omega.{arith}
use Rattle.flat_records.proofs.records.kind_of.Goals as goal

pub returns-in_default : goal.returns-in_default
returns-in_default c = kind_last c.args.n (omega arith)
