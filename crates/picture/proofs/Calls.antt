-- The body read as the code takes it.
use mathlib.Core.Path.{◌≡◌, ap, subst}
use Prim.Native.Nat.{ℕ, ◌^◌, ◌≤◌, ◌<◌}
use mathlib.Core.List.{List}
use Rattle.pane_checks.proofs.Cleared.{texts_cleared}
use Rattle.core_read.specs.Taken.{Place}
use Rattle.core_checks.specs.Checks.{Extent}
use Rattle.core_read.specs.declared.error.Refusal.{Refusal}
use Rattle.core_read.specs.declared.cursor.ByteOrder.{ByteOrder}
use Rattle.core_read.specs.declared.cursor.Cursor.{Cursor}
use Rattle.core_checks.proofs.Checked.{list_cleared, reach_cleared, reach_stays}
use Rattle.pane_read.specs.Pane.{pane_taken}
use Rattle.pane_checks.specs.Checks.{texts_checked}
use Rattle.core_read.specs.Taken.{Taken}
use Rattle.pane_read.proofs.Run.{pane_stays}
use Rattle.pane.proofs.Calls.{start_small, texts_stay}
use Rattle.picture_fields.specs.Picture.{picture_taken, Measured}
use Rattle.picture.specs.Body.{picture_measured, picture_start}
use Rattle.picture_fields.specs.declared.PictureFound.{PictureFound}
use Rattle.pane_read.specs.declared.parsed.Measured.{Measured as MeasuredPane}
use Rattle.picture.proofs.Came.{picture_stays, came_through}
use Rattle.std.specs.Prelude.{Err, Ok}

-- a run that was refused stays so
pub measured_stays : (order : ByteOrder) (s : List ℕ) (why : Refusal) (body : ℕ) (x : Extent) → (picture_measured order s (Err why) body x).then ≡ Err why
unfolding picture_measured
measured_stays order s why body x =
    rw (pane_stays order s why, picture_stays order s why, texts_stay why (pane_taken order s (Err why)).value body, reach_stays why x)

-- where nothing was refused the quads may be filled
pub measured_ready : (order : ByteOrder) (s : List ℕ) (p : Place) (body : ℕ) (x : Extent) (m : MeasuredPane PictureFound) (c : Cursor)
    → picture_measured order s p body x ≡ record { value = m; then = Ok c } → (n : ℕ) → 2040 ≤ n → Measured s m.own n
unfolding picture_measured
measured_ready order s p body x m c e n room =
    let b = pane_taken order s p in
    let t = picture_taken order s b.then in
    let k = reach_cleared (texts_checked t.then b.value body) x c (ap (λ (z : Taken (MeasuredPane PictureFound)). z.then) e) in
    let h : t.value ≡ m.own = ap (λ (z : Taken (MeasuredPane PictureFound)). z.value.own) e in
    subst (λ (z : PictureFound). Measured s z n) h (came_through order s b.then c n (texts_cleared t.then b.value body c k) room)

-- checks 1, 2 and 3 that were passed
pub start_cleared : (n body k : ℕ) (c : Cursor) → picture_start n body k ≡ Ok c → (body < 2 ^ 32) × (2040 ≤ k)
unfolding picture_start
start_cleared n body k c e = let (h, l) = list_cleared _ _ 2040 k c e in (start_small n body c h, l)
