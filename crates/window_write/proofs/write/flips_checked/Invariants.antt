use mathlib.Core.Path.{◌≡◌}
use Prim.Native.Nat.{◌*◌}
use lib.ListN.{drop}
use Rattle.core_read.specs.declared.cursor.Cursor.{Cursor}
use Rattle.window_write.specs.Write.{flips_checked}
use Rattle.std.specs.Prelude.{Ok}
use Rattle.window_write.proofs.write.flips_checked.Given as goal

abbrev pub invariant-loop-frame : goal.invariant-loop-frame
invariant-loop-frame l = (c : Cursor) → flips_checked (Ok c) l.frame (drop (2 * l.frame) l.frames) ≡ flips_checked (Ok c) 0 l.frames
