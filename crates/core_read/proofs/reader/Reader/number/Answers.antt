use mathlib.Core.Path.{refl, sym, ap}
use Prim.Native.Nat.{◌+◌, ◌≤◌, ◌<◌}
use native.Mathlib.Omega.{arith}
use lib.ListN.{length}
use Rattle.core_read.proofs.Runs.{short}
use Rattle.core_read.proofs.Lists.{number_here}
use Rattle.core_read.proofs.reader.Reader.number.Goals as goal
use Rattle.core_read.proofs.reader.Reader.number.Goals.{else-at-length-via-then-at-length+else-width-length, else-at-length-via-else-at-length}

pub returns-then-width-length : goal.returns-then-width-length
returns-then-width-length g c =
    let h : c.args.self.now.cursor.pos + g.T.Number.WIDTH ≤ length c.args.self.now.source.«data».now = omega (arith, c.WIDTH-width.ensures) in
    (refl, rw (c.number_at-value.ensures, c.advanced-self.ensures, c.WIDTH-width.ensures, number_here c.args.self.now.source.order g.T.Number.WIDTH c.args.self.now.source.«data».now c.args.self.now.cursor h))

pub returns : goal.returns
returns g c =
    let h : length c.args.self.now.source.«data».now < c.args.self.now.cursor.pos + g.T.Number.WIDTH =
    elim c.else-at-length.branch [
      | else-at-length-via-then-at-length+else-width-length w ↦ omega (arith, c.WIDTH-width.ensures)
      | else-at-length-via-else-at-length w ↦ omega (arith, g.T.Number.some_bytes)
    ] in
    rw (c.run_out.ensures, c.WIDTH-width.ensures) (ap (λ t. t.then) (sym (short _ _ _ _ _ refl h)))
