use borrow.Author.Rules.{rules}
use Rattle.utf16.specs.Utf16.{high_surrogate}
use Rattle.utf16.proofs.high_surrogate.Goals as goal

-- By what high_surrogate says.
pub returns : goal.returns
unfolding high_surrogate
returns c = search rules
