use mathlib.Core.Path.{◌≡◌, sym}
use lib.ListN.{length}
use borrow.Author.Rules.{rules}
use Rattle.pane_checks.proofs.checks.string_bad.Goals as goal

pub slice_bounds-name_bad-end : goal.slice_bounds-name_bad-end
slice_bounds-name_bad-end g c = let long : length c.args.n.bytes ≡ g.row.N = search rules in sym long

pub returns : goal.returns
returns g c = let long : length c.args.n.bytes ≡ g.row.N = search rules in rw (← long) c.name_bad.ensures
