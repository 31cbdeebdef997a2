use Prim.Native.Nat.{◌+◌, ◌*◌, ◌<◌}
use native.Mathlib.Omega.{arith}
use lib.ListN.{length}
use Rattle.window_read.proofs.Frames.{quads_over, frames_over, frames_none}
use Rattle.window_read.proofs.read.fill_window.Goals as goal
use Rattle.window_read.proofs.read.fill_window.Goals.{else-table-length-via-then-table-length+else-frame_count-length, else-table-length-via-else-table-length}

pub returns-then-frame_count-length-clause-quads_after : goal.returns-then-frame_count-length-clause-quads_after
returns-then-frame_count-length-clause-quads_after c = quads_over _ _ _ c.args.body _ _ c.requires.ahead c.fill_quads.ensures

pub returns-then-frame_count-length-clause-frames_after : goal.returns-then-frame_count-length-clause-frames_after
returns-then-frame_count-length-clause-frames_after c = frames_over _ _ _ _ _ _ (omega (arith, c.if-table-length.true, c.if-frame_count-length.true)) c.fill_frames.ensures

pub returns-else-table-length-clause-quads_after : goal.returns-else-table-length-clause-quads_after
returns-else-table-length-clause-quads_after c = quads_over _ _ _ c.args.body _ _ c.requires.ahead c.fill_quads.ensures

pub returns-else-table-length-clause-frames_after : goal.returns-else-table-length-clause-frames_after
returns-else-table-length-clause-frames_after c =
    let t = c.args.found.table.pos in
    let n = c.args.found.window.frame_count in
    let lack : length c.args.source.«data».now < t + 4 * n =
    elim c.else-table-length.branch [
      | else-table-length-via-then-table-length+else-frame_count-length w ↦ omega (arith, w.if-table-length.true, w.if-frame_count-length.false)
      | else-table-length-via-else-table-length w ↦ omega (arith, w.if-table-length.false)
    ] in
    frames_none _ _ _ _ _ _ _ lack (omega arith) (omega (arith, c.requires.in_bounds)) (c.fill.ensures.after (λ y h. h))
