use Prim.Native.Nat.{◌*◌}
use lib.ListN.{take}
use Rattle.core_write.specs.Puts.{Puts}
use Rattle.window_write.specs.Write.{encode_frames}
use Rattle.window_write.proofs.write.put_each_frame.Given as goal

abbrev pub invariant-loop-material : goal.invariant-loop-material
invariant-loop-material l = Puts l.initial.w l.w (4 * l.material-index) (λ order. encode_frames order (take (2 * l.material-index) l.frames))
