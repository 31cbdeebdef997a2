use Prim.Native.Nat.{◌+◌, ◌-◌, ◌*◌}
use mathlib.Core.Path.{◌≡◌, sym, ◌∙◌}
use native.Mathlib.Omega.{arith}
use Rattle.text_box_parts.proofs.Surrogates.{left_none, left_more, left_off, left_over}
use Rattle.text_box_parts.proofs.units.well_formed_at.Goals as goal

pub loop-unit-init : goal.loop-unit-init
loop-unit-init c =
    let a = c.args in
    let long : a.at + 2 * a.n - a.at ≡ 2 * a.n = omega arith in
    rw c.into_iter-unit-iterator.ensures.into_iter_gives (c.chunks_exact-unit-items.ensures.size, rw (c.chunks_exact-unit-items.ensures.rest, long) (left_none _ _ _ _ c.requires))

pub returns-then-breaks : goal.returns-then-breaks
returns-then-breaks c =
    let v = c.loop-unit.invariant in
    let s = c.in-Some.ensures.steps in
    left_off _ _ _ _ _ _ v.1 _ _ _ s.1.0 (s.1.1 ∙ v.0) c.number_at-u.ensures (sym c.breaks.ensures ∙ c.if-breaks.true)

pub loop-unit-preserved : goal.loop-unit-preserved
loop-unit-preserved c =
    let v = c.loop-unit.invariant in
    let s = c.in-Some.ensures.steps in
    (s.0 ∙ v.0, rw c.high_surrogate-waits.ensures (left_more _ _ _ _ _ _ v.1 _ _ _ s.1.0 (s.1.1 ∙ v.0) c.number_at-u.ensures (sym c.breaks.ensures ∙ c.if-breaks.false)))

pub returns : goal.returns
returns c =
    let v = c.loop-unit.invariant in
    let s = c.in-None.ensures.steps in
    left_over _ _ _ _ _ _ v.1 (omega (arith, s.1.0, v.0))
