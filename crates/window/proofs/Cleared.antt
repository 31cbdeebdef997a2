-- What a window's checks tell where they let through.
use mathlib.Core.Path.{◌≡◌}
use Prim.Native.Nat.{ℕ, ◌+◌}
use mathlib.Core.List.{List, [], ◌∷◌}
use lib.Dec.{ltb}
use lib.ListN.{length}
use borrow.Author.Tests.{ltb-false}
use Rattle.core_read.specs.Taken.{start, stop_if, Place}
use Rattle.core_read.specs.declared.error.Refusal.TheVariants.{BadFlip}
use Rattle.core_read.specs.declared.cursor.Cursor.{Cursor}
use Rattle.core_read.proofs.Runs.{cleared}
use Rattle.core_checks.proofs.Checked.{count_cleared}
use Rattle.window_write.specs.Write.{flips_checked, window_checked, GoodFlips, GoodWindow}
use Rattle.std.specs.Prelude.{Ok}

flips_cleared : (p : Place) (i : ℕ) (l : List ℕ) (c : Cursor) → flips_checked p i l ≡ Ok c → (p ≡ Ok c) × GoodFlips l
unfolding flips_checked GoodFlips
flips_cleared p i [] c e = (e, tt)
flips_cleared p i (material ∷ []) c e = (e, tt)
flips_cleared p i (material ∷ flip ∷ l) c e =
    let (h, g) = flips_cleared (stop_if p (ltb 5 flip) (BadFlip i flip)) (i + 1) l c e in
    let k = cleared p _ _ c h in
    (k.0, (ltb-false _ _ k.1, g))

pub window_cleared : (p : Place) (quads frames : List ℕ) (c : Cursor) → window_checked p quads frames ≡ Ok c → (p ≡ Ok c) × GoodWindow quads frames
unfolding window_checked
window_cleared p quads frames c e =
    let (h₃, g) = flips_cleared _ 0 frames c e in
    let (h₂, e₂, f) = count_cleared _ _ 2 (length frames) c h₃ in
    let (h₁, e₁, q) = count_cleared p _ 8 (length quads) c h₂ in
    (h₁, record { most_quads = q; whole_quads = e₁; most_frames = f; whole_frames = e₂; flips = g })

pub window_let : (quads frames : List ℕ) → ((c : Cursor) → window_checked (Ok c) quads frames ≡ Ok c) → GoodWindow quads frames
window_let quads frames h = (window_cleared _ quads frames (start 0) (h (start 0))).1
