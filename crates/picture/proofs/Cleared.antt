-- What the checks of a write tell.
use mathlib.Core.Path.{◌≡◌}
use Prim.Native.Nat.{ℕ, ◌+◌, ◌≤◌}
use native.Mathlib.Omega.{arith}
use mathlib.Core.List.{List}
use lib.ListN.{length}
use Rattle.core_read.specs.declared.cursor.Cursor.{Cursor}
use Rattle.core_checks.proofs.Checked.{BodyOk, body_started, count_cleared, end_cleared}
use Rattle.pane_read.specs.declared.Pane.{Pane}
use Rattle.pane.proofs.Cleared.{Good, base_cleared}
use Rattle.picture_fields.specs.Picture.{picture_checked, GoodPicture, picture_length}
use Rattle.picture.specs.Body.{body_length, picture_write_checked}
use Rattle.picture_fields.specs.declared.PicturePane.{PicturePane}
use Rattle.picture_fields.proofs.Run.{shape_short}
use Rattle.core_read.specs.Taken.{start, Place}
use Rattle.std.specs.Prelude.{Ok}

-- check 11
pub picture_cleared : (p : Place) (quads : List ℕ) (c : Cursor) → picture_checked p quads ≡ Ok c → (p ≡ Ok c) × GoodPicture quads
unfolding picture_checked
picture_cleared p quads c e = let (h, w, f) = count_cleared p _ 8 (length quads) c e in (h, record { whole = w; few = f })

pub picture_let : (quads : List ℕ) → ((c : Cursor) → picture_checked (Ok c) quads ≡ Ok c) → GoodPicture quads
picture_let quads h = (picture_cleared _ quads (start 0) (h (start 0))).1

-- a body that passed it is no long one
pub picture_short : (x : PicturePane) (quads : List ℕ) → GoodPicture quads → picture_length x quads ≤ 8184
unfolding picture_length
picture_short x quads g = omega (arith, g.few, shape_short x.shape_info_array_index)

pub body_short : (x : PicturePane) (quads : List ℕ) → GoodPicture quads → body_length x quads ≤ 8260
unfolding body_length
body_short x quads g = omega (arith, picture_short x quads g)

-- what lets a body write through
pub record Accepts (b : Pane) (x : PicturePane) (quads : List ℕ) (n body : ℕ) : Type 0 where
  pub place : BodyOk n body
  pub good : Good b
  pub own : GoodPicture quads
  pub fits : body + body_length x quads ≤ n

pub write_cleared : (b : Pane) (x : PicturePane) (quads : List ℕ) (n body : ℕ) (c : Cursor) → picture_write_checked b x quads n body ≡ Ok c → Accepts b x quads n body
unfolding picture_write_checked
write_cleared b x quads n body c e =
    let (h, f) = end_cleared _ _ n c e in
    let (k, o) = picture_cleared _ quads c h in
    let (l, g) = base_cleared _ b c k in
    let (s, m) = body_started n body c l in
    record { place = m; good = g; own = o; fits = f }
