use mathlib.Core.Bool.{cond}
use mathlib.Core.Path.{◌≡◌, sym, ◌∙◌}
use native.Mathlib.Omega.{arith}
use lib.Dec.{leb}
use lib.ListN.{length}
use Prim.Native.Nat.{◌+◌}
use Rattle.core_read.specs.Bytes.{number_at}
use Rattle.std.proofs.lemmas.Bool.{le-leb, lt-leb}
use Rattle.window_read.proofs.Part.{frame_part, frame_parted}
use Rattle.window_read.proofs.read.frame_part.Goals as goal
use Rattle.window_read.proofs.read.frame_part.Goals.{then-at-length, else-at-length, then-at-length-2, else-at-length-2}

pub returns : goal.returns
unfolding frame_part
returns c =
    let s = c.args.source.«data».now in
    let order = c.args.source.order in
    let at = c.args.at in
    let m : c.if-at-length.material_index ≡ cond (leb (at + 2) (length s)) (number_at order 2 s at) 0 =
    elim c.if-at-length.branch [
      | then-at-length w ↦ rw (le-leb (at + 2) (length s) (omega (arith, w.if-at-length.true))) (w.material_index-is ∙ w.number_at-material_index.ensures)
      | else-at-length w ↦ rw (lt-leb (at + 2) (length s) (omega (arith, w.if-at-length.false))) w.material_index-is
    ] in
    let f : c.if-at-length-2.flip ≡ cond (leb (at + 3) (length s)) (number_at order 1 s (at + 2)) 0 =
    elim c.if-at-length-2.branch [
      | then-at-length-2 w ↦ rw (le-leb (at + 3) (length s) (omega (arith, w.if-at-length-2.true))) (w.flip-is ∙ w.number_at-flip.ensures)
      | else-at-length-2 w ↦ rw (lt-leb (at + 3) (length s) (omega (arith, w.if-at-length-2.false))) w.flip-is
    ] in
    λ d. rw (c.from.ensures, m, f) (sym (frame_parted order s at d).value)
