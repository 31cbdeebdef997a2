-- What check 7 tells where it was passed.
use mathlib.Core.Path.{◌≡◌}
use Prim.Native.Nat.{ℕ}
use Rattle.core_read.specs.declared.cursor.Cursor.{Cursor}
use Rattle.core_read.proofs.Runs.{cleared}
use Rattle.pane_read.specs.declared.Pane.{Pane}
use Rattle.pane_checks.specs.Checks.{texts_checked}
use Rattle.core_read.specs.Taken.{Place}
use Rattle.std.specs.Prelude.{Ok}

pub texts_cleared : (p : Place) (b : Pane) (body : ℕ) (c : Cursor) → texts_checked p b body ≡ Ok c → p ≡ Ok c
unfolding texts_checked
texts_cleared p b body c e = (cleared p _ _ c (cleared _ _ _ c e).0).0
