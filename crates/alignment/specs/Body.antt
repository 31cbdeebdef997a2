-- The body calls of an alignment pane.
use Rattle.std.specs.Prelude.{ℕ, ◌+◌, List, ◌++◌, length, None}
use Rattle.core_read.specs.Bytes.{splice}
use Rattle.core_checks.specs.Checks.{body_start, end_checked, reach_checked, unless_refused, written_of, Extent, Written}
use Rattle.core_read.specs.declared.cursor.ByteOrder.{ByteOrder}
use Rattle.pane_read.specs.Pane.{pane_taken, blank_pane, encode_pane}
use Rattle.pane_checks.specs.Checks.{texts_checked, names_checked, reserve_checked}
use Rattle.pane_read.specs.declared.Pane.{Pane}
use Rattle.core_read.specs.Taken.{Taken}
use Rattle.alignment_fields.specs.Alignment.{alignment_taken, blank_alignment, encode_alignment}
use Rattle.alignment_fields.specs.declared.AlignmentPane.{AlignmentPane}
use Rattle.pane_read.specs.declared.parsed.Measured.{Measured}
use Rattle.pane_read.specs.declared.parsed.Parsed.{Parsed}
use Rattle.core_read.specs.Taken.{Place}

-- what is measured from a place p of the run, of a body at B: the base, the own fields, then 7 and, in a section, 19
unfoldable pub alignment_measured : ByteOrder → List ℕ → Place → ℕ → Extent → Taken (Measured AlignmentPane)
alignment_measured order s p body extent =
    let b : Taken Pane = pane_taken order s p in
    let a : Taken AlignmentPane = alignment_taken order s b.then in
    record { value = record { base = b.value; own = a.value }; then = reach_checked (texts_checked a.then b.value body) extent }

-- what a read gives of it, blank where the run was refused
unfoldable pub alignment_given : Taken (Measured AlignmentPane) → Parsed AlignmentPane
alignment_given m =
    record {
      answer = m.then;
      base = unless_refused m.then blank_pane m.value.base;
      own = unless_refused m.then blank_alignment m.value.own;
    }

unfoldable pub alignment_read : ByteOrder → List ℕ → Place → ℕ → Extent → Parsed AlignmentPane
alignment_read order s p body extent = alignment_given (alignment_measured order s p body extent)

-- THE BODY READ at B of s: 1, 2, and then so, in all of the buffer
unfoldable pub alignment_parsed : ByteOrder → List ℕ → ℕ → Parsed AlignmentPane
alignment_parsed order s body = alignment_read order s (body_start (length s) body) body None

-- 1, 2, 9, 10 and 16 of a write into n bytes
unfoldable pub alignment_write_checked : Pane → ℕ → ℕ → Place
alignment_write_checked b n body = end_checked (reserve_checked (names_checked (body_start n body) b) b) (body + 88) n

-- base, and the own fields: 88 bytes
unfoldable pub encode_body : ByteOrder → Pane → AlignmentPane → List ℕ
encode_body order b a = encode_pane order b ++ encode_alignment order a

-- THE BODY WRITE at B of an output o of n bytes: its answer, and the output after it
unfoldable pub alignment_written : Pane → ℕ → ℕ → Written
alignment_written b n body = written_of (alignment_write_checked b n body) (body + 88)

unfoldable pub alignment_output : ByteOrder → Pane → AlignmentPane → List ℕ → ℕ → List ℕ
alignment_output order b a o body = unless_refused (alignment_write_checked b (length o) body) o (splice o body (encode_body order b a))
