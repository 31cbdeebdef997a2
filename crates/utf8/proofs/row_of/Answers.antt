use borrow.Author.Rules.{rules}
use borrow.Author.Tests.{tests}
use Rattle.std.proofs.lemmas.Iterator.{YieldsList-from_slice}
use Rattle.std.proofs.lemmas.Iterator.Search.{find_from_yields_List}
use Rattle.utf8.specs.Utf8.{table, takes, row_of}
use Rattle.utf8.proofs.row_of.Goals as goal

pub returns : goal.returns
unfolding row_of takes table
returns c = find_from_yields_List (λ r. takes r 0 c.args.b) _ _ _ c.find.ensures.ran (YieldsList-from_slice table c.iter.ensures.rest) (λ x t q k. search (rules, tests))
