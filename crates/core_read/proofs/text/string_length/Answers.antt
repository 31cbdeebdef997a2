use Rattle.core_read.proofs.Nul.{nul_found}
use Rattle.core_read.proofs.text.string_length.Goals as goal

pub returns : goal.returns
returns c = let h = c.unwrap_or.ensures in let k = c.first_nul.ensures in let m = nul_found c.args.src.now in cc
