use Prim.Native.Nat.{◌*◌}
use Rattle.window_read.proofs.Filling.{Filling}
use Rattle.window_read.proofs.Frames.{numbers_left}
use Rattle.window_read.proofs.read.fill_frames.Given as goal

abbrev pub invariant-loop-i : goal.invariant-loop-i
invariant-loop-i l = Filling (numbers_left l.source.order l.source.«data».now l.from l.table l.n 0) l.initial.out l.out (2 * l.i) (numbers_left l.source.order l.source.«data».now l.from l.table l.n l.i)
