use borrow.Author.Rules.{rules}
use Rattle.utf16.specs.Utf16.{low_surrogate}
use Rattle.utf16.proofs.low_surrogate.Goals as goal

-- By what low_surrogate says.
pub returns : goal.returns
unfolding low_surrogate
returns c = search rules
