-- The body calls as the code takes them.
use mathlib.Core.Path.{◌≡◌, refl, ap}
use Prim.Native.Nat.{ℕ, ◌+◌, ◌^◌, ◌≤◌, ◌<◌}
use native.Mathlib.Omega.{arith}
use mathlib.Core.List.{List}
use lib.ListN.{length}
use Rattle.pane_checks.proofs.Cleared.{texts_cleared}
use Rattle.core_read.specs.Taken.{Place}
use Rattle.core_checks.specs.Checks.{body_start, Extent}
use Rattle.core_read.specs.declared.error.Refusal.{Refusal}
use Rattle.core_read.specs.declared.cursor.ByteOrder.{ByteOrder}
use Rattle.core_read.specs.declared.cursor.Cursor.{Cursor}
use Rattle.core_checks.proofs.Checked.{BodyOk, body_started, list_cleared, end_cleared, reach_cleared, reach_stays}
use Rattle.pane_read.specs.Pane.{pane_taken}
use Rattle.pane_checks.specs.Checks.{texts_checked, names_checked, reserve_checked}
use Rattle.pane_read.specs.declared.Pane.{Pane}
use Rattle.pane_read.proofs.Run.{pane_stays}
use Rattle.pane.proofs.Calls.{texts_stay}
use Rattle.pane.proofs.Cleared.{Good, base_cleared}
use Rattle.window_read.specs.Window.{window_taken, Passed}
use Rattle.window_write.specs.Write.{window_checked, GoodWindow}
use Rattle.window.specs.Body.{window_measured, read_start, body_length, window_write_checked}
use Rattle.core_read.specs.Taken.{Taken}
use Rattle.window_read.specs.declared.read.WindowFound.{WindowFound}
use Rattle.pane_read.specs.declared.parsed.Measured.{Measured}
use Rattle.window_read.proofs.Run.{window_stays}
use Rattle.window_read.proofs.Through.{found_measured}
use Rattle.window.proofs.Cleared.{window_cleared}
use Rattle.std.specs.Prelude.{Err, Ok}

-- ---- reading

-- a run that was refused stays so
pub measured_stays : (order : ByteOrder) (s : List ℕ) (why : Refusal) (body : ℕ) (x : Extent) → (window_measured order s (Err why) body x).then ≡ Err why
unfolding window_measured
measured_stays order s why body x =
    rw (pane_stays order s why, window_stays order s why body, texts_stay why (pane_taken order s (Err why)).value body, reach_stays why x)

-- where nothing was refused the lists may be filled
pub measured_ready : (order : ByteOrder) (s : List ℕ) (p : Place) (body : ℕ) (x : Extent) (m : Measured WindowFound) (c : Cursor)
    → window_measured order s p body x ≡ record { value = m; then = Ok c } → Passed order s m.own body
unfolding window_measured
measured_ready order s p body x m c e =
    let b = pane_taken order s p in
    let t = window_taken order s b.then body in
    let k = reach_cleared (texts_checked t.then b.value body) x c (ap (λ (z : Taken (Measured WindowFound)). z.then) e) in
    let own : t.value ≡ m.own = ap (λ (z : Taken (Measured WindowFound)). z.value.own) e in
    let h : ◌≡◌ {A = Taken WindowFound} t (record { value = m.own; then = Ok c }) = rw (← own, ← texts_cleared t.then b.value body c k) refl in
    found_measured order s b.then body c m.own h

-- checks 1, 2 and 3 that were passed
pub start_cleared : (n body : ℕ) (quads frames : List ℕ) (c : Cursor) → read_start n body quads frames ≡ Ok c
    → ((8 ≤ body) × (body < 2 ^ 32)) × ((2040 ≤ length quads) × (510 ≤ length frames))
unfolding read_start
start_cleared n body quads frames c e =
    let (h₂, f) = list_cleared _ _ 510 (length frames) c e in
    let (h₁, q) = list_cleared _ _ 2040 (length quads) c h₂ in
    let (k, o) = body_started n body c h₁ in
    ((o.least, omega (arith, o.most, o.within)), (q, f))

-- ---- writing

-- what lets a body write through
pub record Accepts (b : Pane) (quads frames : List ℕ) (n body : ℕ) : Type 0 where
  pub place : BodyOk n body
  pub good : Good b
  pub lists : GoodWindow quads frames
  pub fits : body + body_length body quads frames ≤ n

lists_cleared : (b : Pane) (quads frames : List ℕ) (n body : ℕ) (c : Cursor) → window_checked (reserve_checked (names_checked (body_start n body) b) b) quads frames ≡ Ok c
    → BodyOk n body × Good b × GoodWindow quads frames
lists_cleared b quads frames n body c e =
    let (h, l) = window_cleared _ quads frames c e in
    let (k, g) = base_cleared _ b c h in
    let (s, o) = body_started n body c k in
    (o, g, l)

pub write_cleared : (b : Pane) (quads frames : List ℕ) (n body : ℕ) (c : Cursor) → window_write_checked b quads frames n body ≡ Ok c → Accepts b quads frames n body
unfolding window_write_checked
write_cleared b quads frames n body c e =
    let (h, f) = end_cleared _ _ n c e in
    let (o, g, l) = lists_cleared b quads frames n body c h in
    record { place = o; good = g; lists = l; fits = f }
