-- The body calls of a window pane.
use Rattle.std.specs.Prelude.{ℕ, ◌+◌, List, ◌++◌, length, None}
use Rattle.core_read.specs.Bytes.{splice}
use Rattle.core_read.specs.Taken.{over, Place}
use Rattle.core_checks.specs.Checks.{body_start, list_checked, end_checked, reach_checked, unless_refused, written_of, Extent, Written}
use Rattle.core_read.specs.declared.cursor.ByteOrder.{ByteOrder}
use Rattle.pane_read.specs.Pane.{pane_taken, blank_pane, encode_pane}
use Rattle.pane_checks.specs.Checks.{texts_checked, names_checked, reserve_checked}
use Rattle.pane_read.specs.declared.Pane.{Pane}
use Rattle.core_read.specs.Taken.{Taken}
use Rattle.window_read.specs.Window.{window_taken, window_quads, window_frames, blank_window}
use Rattle.window_write.specs.Write.{window_checked, window_length, encode_window}
use Rattle.window_read.specs.declared.WindowPane.{WindowPane}
use Rattle.window_read.specs.declared.read.WindowFound.{WindowFound}
use Rattle.pane_read.specs.declared.parsed.Measured.{Measured}
use Rattle.pane_read.specs.declared.parsed.Parsed.{Parsed}
use Rattle.core_read.specs.declared.error.NumberList.TheVariants.{Quads, Frames}

-- ---- reading

-- what is measured from a place p of the run, of a body at B: the base, the own fields and parts, then 7 and, in a section, 19
unfoldable pub window_measured : ByteOrder → List ℕ → Place → ℕ → Extent → Taken (Measured WindowFound)
window_measured order s p body extent =
    let b : Taken Pane = pane_taken order s p in
    let x : Taken WindowFound = window_taken order s b.then body in
    record { value = record { base = b.value; own = x.value }; then = reach_checked (texts_checked x.then b.value body) extent }

-- what a read gives of it, blank where the run was refused
unfoldable pub window_given : Taken (Measured WindowFound) → Parsed WindowPane
window_given m =
    record {
      answer = m.then;
      base = unless_refused m.then blank_pane m.value.base;
      own = unless_refused m.then blank_window m.value.own.window;
    }

-- the lent lists after it: the numbers over the front of each, or as it was where the run was refused
unfoldable pub quads_filled : ByteOrder → List ℕ → Taken (Measured WindowFound) → List ℕ → List ℕ
quads_filled order s m old = unless_refused m.then old (over (window_quads order s m.value.own) old)

unfoldable pub frames_filled : ByteOrder → List ℕ → Taken (Measured WindowFound) → ℕ → List ℕ → List ℕ
frames_filled order s m body old = unless_refused m.then old (over (window_frames order s m.value.own body) old)

unfoldable pub window_read : ByteOrder → List ℕ → Place → ℕ → Extent → Parsed WindowPane
window_read order s p body extent = window_given (window_measured order s p body extent)

unfoldable pub read_quads : ByteOrder → List ℕ → Place → ℕ → Extent → List ℕ → List ℕ
read_quads order s p body extent old = quads_filled order s (window_measured order s p body extent) old

unfoldable pub read_frames : ByteOrder → List ℕ → Place → ℕ → Extent → List ℕ → List ℕ
read_frames order s p body extent old = frames_filled order s (window_measured order s p body extent) body old

-- 1, 2 and 3, of lent lists
unfoldable pub read_start : ℕ → ℕ → List ℕ → List ℕ → Place
read_start n body quads frames = list_checked (list_checked (body_start n body) Quads 2040 (length quads)) Frames 510 (length frames)

-- THE BODY READ at B of s: 1, 2, 3, and then so, in all of the buffer; and the lent lists after it
unfoldable pub window_parsed : ByteOrder → List ℕ → ℕ → List ℕ → List ℕ → Parsed WindowPane
window_parsed order s body quads frames = window_read order s (read_start (length s) body quads frames) body None

unfoldable pub parsed_quads : ByteOrder → List ℕ → ℕ → List ℕ → List ℕ → List ℕ
parsed_quads order s body quads frames = read_quads order s (read_start (length s) body quads frames) body None quads

unfoldable pub parsed_frames : ByteOrder → List ℕ → ℕ → List ℕ → List ℕ → List ℕ
parsed_frames order s body quads frames = read_frames order s (read_start (length s) body quads frames) body None frames

-- ---- writing

-- base, and what the window adds
unfoldable pub body_length : ℕ → List ℕ → List ℕ → ℕ
body_length body quads frames = 76 + window_length body (length quads) (length frames)

unfoldable pub encode_body : ByteOrder → ℕ → Pane → WindowPane → List ℕ → List ℕ → List ℕ
encode_body order body b x quads frames = encode_pane order b ++ encode_window order body x quads frames

-- 1, 2, 9, 10, 11, 12 and 16 of a write into n bytes
unfoldable pub window_write_checked : Pane → List ℕ → List ℕ → ℕ → ℕ → Place
window_write_checked b quads frames n body =
    let base : Place = reserve_checked (names_checked (body_start n body) b) b in
    end_checked (window_checked base quads frames) (body + body_length body quads frames) n

-- THE BODY WRITE at B of an output o of n bytes: its answer, and the output after it
unfoldable pub window_written : Pane → List ℕ → List ℕ → ℕ → ℕ → Written
window_written b quads frames n body = written_of (window_write_checked b quads frames n body) (body + body_length body quads frames)

unfoldable pub window_output : ByteOrder → Pane → WindowPane → List ℕ → List ℕ → List ℕ → ℕ → List ℕ
window_output order b x quads frames o body =
    unless_refused (window_write_checked b quads frames (length o) body) o (splice o body (encode_body order body b x quads frames))
