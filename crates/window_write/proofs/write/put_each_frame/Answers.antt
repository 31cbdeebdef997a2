use mathlib.Core.Path.{◌≡◌, refl}
use Prim.Native.Nat.{◌/◌}
use lib.ListN.{length}
use native.Mathlib.Omega.{arith}
use Rattle.core_write.proofs.Chain.{◌then◌, puts_as, puts_none}
use Rattle.window_write.specs.Write.{encode_frames}
use Rattle.window_write.proofs.Puts.{frames_more, frames_all}
use Rattle.window_write.proofs.write.put_each_frame.Goals as goal

pub loop-material-init : goal.loop-material-init
unfolding encode_frames
loop-material-init c = puts_none _

pub loop-material-preserved : goal.loop-material-preserved
loop-material-preserved c =
    puts_as (omega arith) (λ order. frames_more order c.args.frames.now _ _ c.as_chunks.ensures.front (omega (arith, c.as_chunks.ensures.front_len)))
    (c.loop-material.invariant then c.put_frame.ensures)

pub returns : goal.returns
returns c =
    let all : c.loop-material.material-index ≡ length c.args.frames.now / 2 = omega (arith, c.as_chunks.ensures.front_len) in
    puts_as refl (λ order. frames_all order c.args.frames.now) (rw all at c.loop-material.invariant)
