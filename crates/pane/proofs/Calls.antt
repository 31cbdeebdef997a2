-- The body read as the code takes it.
use mathlib.Core.Path.{◌≡◌, refl}
use Prim.Native.Nat.{ℕ, ◌^◌, ◌<◌}
use native.Mathlib.Omega.{arith}
use mathlib.Core.List.{List}
use Rattle.core_read.specs.Taken.{stop_if}
use Rattle.core_checks.specs.Checks.{body_start, Extent}
use Rattle.core_read.specs.declared.error.Refusal.{Refusal}
use Rattle.core_read.specs.declared.cursor.ByteOrder.{ByteOrder}
use Rattle.core_read.specs.declared.cursor.Cursor.{Cursor}
use Rattle.core_checks.proofs.Checked.{body_started, reach_stays}
use Rattle.pane_checks.specs.Checks.{texts_checked}
use Rattle.pane.specs.Body.{pane_measured}
use Rattle.pane_read.specs.declared.Pane.{Pane}
use Rattle.pane_read.proofs.Run.{pane_stays}
use Rattle.std.specs.Prelude.{Err, Ok}

-- a body that passed checks 1 and 2 is at no large place
pub start_small : (n body : ℕ) (c : Cursor) → body_start n body ≡ Ok c → body < 2 ^ 32
start_small n body c e = let (h, o) = body_started n body c e in omega (arith, o.most, o.within)

-- check 7 of a run that was refused
pub texts_stay : (why : Refusal) (b : Pane) (body : ℕ) → texts_checked (Err why) b body ≡ Err why
unfolding texts_checked stop_if
texts_stay why b body = refl

-- a run that was refused stays so, whatever the order of its checks
pub measured_stays : (order : ByteOrder) (s : List ℕ) (why : Refusal) (body : ℕ) (x : Extent) → (pane_measured order s (Err why) body x).then ≡ Err why
unfolding pane_measured
measured_stays order s why body x = simp (pane_stays, texts_stay, reach_stays)
