use native.Mathlib.Omega.{arith}
use Rattle.pane.proofs.Cleared.{sound}
use Rattle.window.proofs.Calls.{write_cleared}
use Rattle.window.proofs.body.write.Goals as goal

pub put_body-requires-clause-sound : goal.put_body-requires-clause-sound
put_body-requires-clause-sound c =
    let a = write_cleared _ _ _ _ _ _ c.in_ok-write_checked.ensures in
    (sound _ a.good, a.lists, omega (arith, a.place.most, a.place.within))
