use mathlib.Core.Path.{◌≡◌, ◌∙◌}
use Prim.Native.Nat.{◌≤◌}
use lib.ListN.{length}
use native.Mathlib.Omega.{arith}
use Rattle.core_read.proofs.Nul.{copied_none, copied_more, copied_nul, copied_all}
use Rattle.core_read.proofs.text.fill_string.Goals as goal

pub loop-i-init : goal.loop-i-init
loop-i-init c = copied_none _ _

pub loop-i-preserved : goal.loop-i-preserved
loop-i-preserved c = copied_more _ _ _ _ c.loop-i.invariant c.loop-i-test.true c.requires c.if-b-eq0.false

pub returns-then-b-eq0-clause-value : goal.returns-then-b-eq0-clause-value
returns-then-b-eq0-clause-value c = (copied_nul _ _ _ _ c.loop-i.invariant c.loop-i-test.true c.if-b-eq0.true).0

pub returns-then-b-eq0-clause-out_after : goal.returns-then-b-eq0-clause-out_after
returns-then-b-eq0-clause-out_after c = (copied_nul _ _ _ _ c.loop-i.invariant c.loop-i-test.true c.if-b-eq0.true).1

pub returns-clause-value : goal.returns-clause-value
returns-clause-value c =
    let all : length c.args.src.now ≤ c.loop-i.i = omega arith in
    let end : length c.args.src.now ≡ c.loop-i.i = omega (arith, c.loop-i.invariant.within) in
    end ∙ (copied_all _ _ _ _ c.loop-i.invariant all).0

pub returns-clause-out_after : goal.returns-clause-out_after
returns-clause-out_after c =
    let all : length c.args.src.now ≤ c.loop-i.i = omega arith in
    (copied_all _ _ _ _ c.loop-i.invariant all).1
