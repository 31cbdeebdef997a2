use mathlib.Core.Path.{sym}
use native.Mathlib.Omega.{arith}
use Rattle.core_checks.proofs.Checked.{body_started}
use Rattle.window.proofs.Cleared.{window_let}
use Rattle.window.proofs.body.write_checked.Goals as goal

pub window_length-own-requires : goal.window_length-own-requires
window_length-own-requires c =
    let good = window_let _ _ c.in_ok-window_checked.ensures in
    let (_, o) = body_started _ _ _ (sym c.in_ok-body_start.ensures) in
    (omega (arith, o.most, o.within), good.most_quads, good.most_frames)
