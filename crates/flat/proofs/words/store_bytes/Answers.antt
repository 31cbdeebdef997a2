use mathlib.Core.Path.{◌≡◌, refl, ◌∙◌}
use Prim.Native.Nat.{◌+◌, ◌-◌}
use native.Mathlib.Omega.{arith}
use lib.ListN.{length}
use borrow.Author.Rules.{rules}
use Rattle.flat.proofs.Storing.{copied_none, copied_more, copied_all, stored_run}
use Rattle.flat.proofs.words.store_bytes.Goals as goal

pub loop-i-init : goal.loop-i-init
loop-i-init c = copied_none _ _ (search rules)

pub loop-i-preserved : goal.loop-i-preserved
loop-i-preserved c = copied_more _ c.loop-i-test.true c.loop-i.invariant

pub returns : goal.returns
returns c = stored_run _ _ _ c.requires (copied_all _ c.loop-i-test.false c.loop-i.invariant)
