use mathlib.Core.Path.{◌≡◌}
use Prim.Native.Nat.{ℕ, ◌+◌, ◌-◌, ◌*◌, ◌≤◌}
use lib.ListN.{length, replicate}
use native.Mathlib.Omega.{arith}
use Rattle.window_read.proofs.Filling.{Filling, filling_more, filling_blank}
use Rattle.window_read.proofs.Frames.{numbers_left, numbers_turn, numbers_cut, frames_all, frames_filled}
use Rattle.window_read.proofs.read.fill_frames.Goals as goal

pub loop-i-preserved : goal.loop-i-preserved
loop-i-preserved c =
    let i = c.loop-i.i in
    let e : 2 * (i + 1) ≡ 2 * i + 1 + 1 = omega arith in
    let room : c.args.from + c.number_at-offset.result + 4 ≤ length c.args.source.«data».now = omega (arith, c.if-source-at.false) in
    let v =
    rw (numbers_turn _ _ _ _ _ _ c.loop-i-test.true _ _ c.number_at-offset.ensures room c.at-frame.ensures)
    at c.loop-i.invariant in
    rw (e, c.store_frame-in-loop-i.ensures) (filling_more _ _ _ _ _ _ (filling_more _ _ _ _ _ _ v (omega arith)) (omega arith))

pub returns-then-source-at : goal.returns-then-source-at
returns-then-source-at c =
    let i = c.loop-i.i in
    let v =
    rw (numbers_cut _ _ _ _ _ _ c.loop-i-test.true _ _ c.number_at-offset.ensures c.if-source-at.true c.frame_part-part.ensures)
    at c.loop-i.invariant in
    let all = numbers_left c.args.source.order c.args.source.«data».now c.args.from c.args.table c.args.n 0 in
    let w : Filling all c.args.out.now c.store_frame.new.out (2 * i + 1 + 1) (replicate {A = ℕ} (2 * (c.args.n - (i + 1))) 0) =
    rw c.store_frame.ensures (filling_more _ _ _ _ _ _ (filling_more _ _ _ _ _ _ v (omega arith)) (omega arith)) in
    frames_all _ _ _ _ _ _ _
    (filling_blank _ _ _ _ _ _ _ _ w (omega (arith, c.loop-i-test.true, c.requires)) (omega arith) (omega (arith, c.loop-i-test.true)) (c.fill.ensures.after (λ y h. h)))

pub returns : goal.returns
returns c = frames_filled _ _ _ _ _ _ _ _ c.loop-i-test.false c.loop-i.invariant
