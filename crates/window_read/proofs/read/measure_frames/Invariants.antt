use mathlib.Core.Path.{◌≡◌}
use Prim.Native.Nat.{◌+◌, ◌*◌}
use Rattle.std.specs.Prelude.{Ok}
use Rattle.window_read.proofs.Run.{left}
use Rattle.window_read.proofs.read.measure_frames.Given as goal

abbrev pub invariant-loop : goal.invariant-loop
invariant-loop l = record {
  source : l.r.source ≡ l.fn.r.source;
  offsets : l.offsets.source ≡ l.fn.r.source;
  at : l.offsets.cursor.pos ≡ l.fn.table.pos + 4 * l.counter;
  run : (left l.fn.r.source.order l.fn.r.source.«data».now l.from l.fn.table.pos l.n l.counter (Ok l.r.cursor)).then ≡ (left l.fn.r.source.order l.fn.r.source.«data».now l.from l.fn.table.pos l.n 0 (Ok l.fn.r.cursor)).then;
}
