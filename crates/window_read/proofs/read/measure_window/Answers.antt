use native.Mathlib.Omega.{arith}
use Rattle.window_read.proofs.Through.{table_room}
use Rattle.window_read.proofs.read.measure_window.Goals as goal

pub measure_frames-requires : goal.measure_frames-requires
measure_frames-requires c = (omega arith, table_room c.pass.new.self c.seek-2.new.self c.pass-2.new.self _ _ c.in_ok-seek-2.ensures c.in_ok-pass-2.ensures)
