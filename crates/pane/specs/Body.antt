-- The body calls of a base pane.
use Rattle.std.specs.Prelude.{ℕ, ◌+◌, List, length, None}
use Rattle.core_read.specs.Bytes.{splice}
use Rattle.core_checks.specs.Checks.{body_start, end_checked, reach_checked, unless_refused, written_of, Extent, Written}
use Rattle.core_read.specs.declared.cursor.ByteOrder.{ByteOrder}
use Rattle.pane_read.specs.Pane.{pane_taken, blank_pane, encode_pane}
use Rattle.pane_checks.specs.Checks.{texts_checked, names_checked, reserve_checked}
use Rattle.pane_read.specs.declared.Pane.{Pane}
use Rattle.core_read.specs.Taken.{Taken}
use Rattle.pane_read.specs.declared.parsed.Parsed.{Parsed}
use Rattle.core_read.specs.Taken.{Place}

-- what is measured from a place p of the run, of a body at B: the fields with 4, then 7 and, in a section, 19
unfoldable pub pane_measured : ByteOrder → List ℕ → Place → ℕ → Extent → Taken Pane
pane_measured order s p body extent =
    let t : Taken Pane = pane_taken order s p in
    record { value = t.value; then = reach_checked (texts_checked t.then t.value body) extent }

-- what a read gives of it, blank where the run was refused
unfoldable pub pane_given : Taken Pane → Parsed (Unit {0})
pane_given m = record { answer = m.then; base = unless_refused m.then blank_pane m.value; own = tt }

unfoldable pub pane_read : ByteOrder → List ℕ → Place → ℕ → Extent → Parsed (Unit {0})
pane_read order s p body extent = pane_given (pane_measured order s p body extent)

-- THE BODY READ at B of s: 1, 2, and then so, in all of the buffer
unfoldable pub pane_parsed : ByteOrder → List ℕ → ℕ → Parsed (Unit {0})
pane_parsed order s body = pane_read order s (body_start (length s) body) body None

-- 1, 2, 9, 10 and 16 of a write into n bytes
unfoldable pub pane_write_checked : Pane → ℕ → ℕ → Place
pane_write_checked b n body = end_checked (reserve_checked (names_checked (body_start n body) b) b) (body + 76) n

-- THE BODY WRITE of b at B of an output o of n bytes: its answer, and the output after it
unfoldable pub pane_written : Pane → ℕ → ℕ → Written
pane_written b n body = written_of (pane_write_checked b n body) (body + 76)

unfoldable pub pane_output : ByteOrder → Pane → List ℕ → ℕ → List ℕ
pane_output order b o body = unless_refused (pane_write_checked b (length o) body) o (splice o body (encode_pane order b))
