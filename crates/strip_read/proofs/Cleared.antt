-- What the checks of the section read tell.
use mathlib.Core.Path.{◌≡◌}
use Prim.Native.Nat.{ℕ, ◌+◌, ◌-◌, ◌%◌, ◌≤◌}
use native.Mathlib.Omega.{arith}
use mathlib.Core.Bool.{false, ◌||◌}
use lib.ListN.{length}
use lib.Dec.{ltb}
use borrow.Author.Tests.{ltb-false}
use Rattle.core_read.specs.declared.cursor.Cursor.{Cursor}
use Rattle.core_read.specs.declared.error.NumberList.TheVariants.{Quads, Units, Lines, Frames}
use Rattle.core_checks.proofs.Checked.{SectionOk, section_started, list_cleared, or_false}
use Rattle.strip_records.specs.Whole.{Lists, Full}
use Rattle.strip_header.specs.Header.{read_start, size_bad}
use Rattle.std.specs.Prelude.{Ok}

-- 1, 2 and 3
pub read_started : (n p : ℕ) (l : Lists) (c : Cursor) → read_start n p (length l.quads) (length l.units) (length l.lines) (length l.frames) ≡ Ok c
    → SectionOk n p × Full l
unfolding read_start
read_started n p l c e =
    let (a, x) = list_cleared _ Frames 510 (length l.frames) c e in
    let (b, y) = list_cleared _ Lines 510 (length l.lines) c a in
    let (d, z) = list_cleared _ Units 32767 (length l.units) c b in
    let (f, w) = list_cleared _ Quads 2040 (length l.quads) c d in
    ((section_started n p c f).1, record { quads = w; units = z; lines = y; frames = x })

-- 8
pub size_ok : (n p z : ℕ) → size_bad n p z ≡ false → p ≤ n → p + z ≤ n
unfolding size_bad
size_ok n p z e h =
    let k : z ≤ n - p = ltb-false (n - p) z (or_false (ltb z 8 || ltb 0 (z % 4)) (ltb (n - p) z) e).1 in
    omega arith
