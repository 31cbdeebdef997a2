-- What the checks of a write tell.
use mathlib.Core.Path.{◌≡◌}
use Prim.Native.Nat.{ℕ, ◌+◌, ◌≤◌}
use Rattle.core_read.specs.declared.cursor.Cursor.{Cursor}
use Rattle.core_checks.proofs.Checked.{BodyOk, body_started, end_cleared}
use Rattle.pane_read.specs.declared.Pane.{Pane}
use Rattle.pane.proofs.Cleared.{Good, base_cleared}
use Rattle.alignment.specs.Body.{alignment_write_checked}
use Rattle.std.specs.Prelude.{Ok}

-- what lets a body write through
pub record Accepts (b : Pane) (n body : ℕ) : Type 0 where
  pub place : BodyOk n body
  pub good : Good b
  pub fits : body + 88 ≤ n

pub write_cleared : (b : Pane) (n body : ℕ) (c : Cursor) → alignment_write_checked b n body ≡ Ok c → Accepts b n body
unfolding alignment_write_checked
write_cleared b n body c e =
    let (h, f) = end_cleared _ _ n c e in
    let (k, g) = base_cleared _ b c h in
    let (s, o) = body_started n body c k in
    record { place = o; good = g; fits = f }
