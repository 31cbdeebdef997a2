use Rattle.flat_kinds.proofs.Sides.{sides_stored}
use Rattle.flat_kinds.proofs.wnd1.put_sides.Goals as goal

pub returns : goal.returns
returns c =
    sides_stored (record { word = c.bits_of.ensures; fits = c.ranges.left }) (record { word = c.bits_of-2.ensures; fits = c.ranges.right }) (record { word = c.bits_of-3.ensures; fits = c.ranges.top }) (record { word = c.bits_of-4.ensures; fits = c.ranges.bottom }) c.store.ensures
