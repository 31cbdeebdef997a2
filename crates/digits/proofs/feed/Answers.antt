use mathlib.Core.Path.{refl}
use native.Mathlib.Omega.{arith}
use Rattle.digits.proofs.Feeds.{going_on, left_none, left_fed, fed_here, fed_nowhere, bytes_end}
use Rattle.digits.proofs.feed.Goals as goal

pub loop-i-init : goal.loop-i-init
loop-i-init c = (refl, record { lines = refl; bytes = refl; place = omega arith })

pub returns-then-b-eq10 : goal.returns-then-b-eq10
returns-then-b-eq10 c =
    let here = left_fed _ _ c.loop-i-test.true c.if-b-eq10.true in
    record { value = fed_here _ _ _ _ _ _ here c.loop-i.invariant.1 c.loop-i-test.true; bytes_after = bytes_end _ _ _ _ _ _ here c.loop-i.invariant.1 }

pub loop-i-preserved : goal.loop-i-preserved
loop-i-preserved c =
    let more = going_on _ _ _ _ _ _ c.loop-i-test.true c.if-b-eq10.false c.loop-i.invariant.1 in
    (omega arith, rw (c.digit-l.ensures.value, c.digit-l.ensures.bytes_after) more)

pub returns : goal.returns
returns c =
    let none = left_none c.args.text.now c.loop-i.i c.loop-i-test.false in
    record { value = fed_nowhere _ _ _ _ _ _ none c.loop-i.invariant.1 c.loop-i-test.false; bytes_after = bytes_end _ _ _ _ _ _ none c.loop-i.invariant.1 }
