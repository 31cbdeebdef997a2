-- The body calls of a picture pane.
use Rattle.std.specs.Prelude.{ℕ, ◌+◌, List, ◌++◌, length, None}
use Rattle.core_read.specs.Bytes.{splice}
use Rattle.core_read.specs.Taken.{over, Place}
use Rattle.core_checks.specs.Checks.{body_start, list_checked, end_checked, reach_checked, unless_refused, written_of, Extent, Written}
use Rattle.core_read.specs.declared.cursor.ByteOrder.{ByteOrder}
use Rattle.pane_read.specs.Pane.{pane_taken, blank_pane, encode_pane}
use Rattle.pane_checks.specs.Checks.{texts_checked, names_checked, reserve_checked}
use Rattle.pane_read.specs.declared.Pane.{Pane}
use Rattle.core_read.specs.Taken.{Taken}
use Rattle.picture_fields.specs.Picture.{picture_taken, quads_of, blank_picture, picture_checked, picture_length, encode_picture}
use Rattle.picture_fields.specs.declared.PicturePane.{PicturePane}
use Rattle.picture_fields.specs.declared.PictureFound.{PictureFound}
use Rattle.pane_read.specs.declared.parsed.Measured.{Measured}
use Rattle.pane_read.specs.declared.parsed.Parsed.{Parsed}
use Rattle.core_read.specs.declared.error.NumberList.TheVariants.{Quads}

-- ---- reading

-- what is measured from a place p of the run, of a body at B: the base, the own fields, then 7 and, in a section, 19
unfoldable pub picture_measured : ByteOrder → List ℕ → Place → ℕ → Extent → Taken (Measured PictureFound)
picture_measured order s p body extent =
    let b : Taken Pane = pane_taken order s p in
    let x : Taken PictureFound = picture_taken order s b.then in
    record { value = record { base = b.value; own = x.value }; then = reach_checked (texts_checked x.then b.value body) extent }

-- what a read gives of it, blank where the run was refused
unfoldable pub picture_given : Taken (Measured PictureFound) → Parsed PicturePane
picture_given m =
    record {
      answer = m.then;
      base = unless_refused m.then blank_pane m.value.base;
      own = unless_refused m.then blank_picture m.value.own.picture;
    }

-- the lent list after it: the quads over its front, or as it was where the run was refused
unfoldable pub quads_filled : ByteOrder → List ℕ → Taken (Measured PictureFound) → List ℕ → List ℕ
quads_filled order s m old = unless_refused m.then old (over (quads_of order s m.value.own) old)

unfoldable pub picture_read : ByteOrder → List ℕ → Place → ℕ → Extent → Parsed PicturePane
picture_read order s p body extent = picture_given (picture_measured order s p body extent)

unfoldable pub quads_read : ByteOrder → List ℕ → Place → ℕ → Extent → List ℕ → List ℕ
quads_read order s p body extent old = quads_filled order s (picture_measured order s p body extent) old

-- 1, 2 and 3 of a read from n bytes with a list of k numbers
unfoldable pub picture_start : ℕ → ℕ → ℕ → Place
picture_start n body k = list_checked (body_start n body) Quads 2040 k

-- THE BODY READ at B of s with a list of k numbers, in all of the buffer, and that list after it
unfoldable pub picture_parsed : ByteOrder → List ℕ → ℕ → ℕ → Parsed PicturePane
picture_parsed order s body k = picture_read order s (picture_start (length s) body k) body None

unfoldable pub quads_parsed : ByteOrder → List ℕ → ℕ → List ℕ → List ℕ
quads_parsed order s body old = quads_read order s (picture_start (length s) body (length old)) body None old

-- ---- writing

-- base, and what the kind adds
unfoldable pub encode_body : ByteOrder → Pane → PicturePane → List ℕ → List ℕ
encode_body order b x quads = encode_pane order b ++ encode_picture order x quads

unfoldable pub body_length : PicturePane → List ℕ → ℕ
body_length x quads = 76 + picture_length x quads

-- 1, 2, 9, 10, 11 and 16 of a write into n bytes
unfoldable pub picture_write_checked : Pane → PicturePane → List ℕ → ℕ → ℕ → Place
picture_write_checked b x quads n body =
    end_checked (picture_checked (reserve_checked (names_checked (body_start n body) b) b) quads) (body + body_length x quads) n

-- THE BODY WRITE at B of an output o of n bytes: its answer, and the output after it
unfoldable pub picture_written : Pane → PicturePane → List ℕ → ℕ → ℕ → Written
picture_written b x quads n body = written_of (picture_write_checked b x quads n body) (body + body_length x quads)

unfoldable pub picture_output : ByteOrder → Pane → PicturePane → List ℕ → List ℕ → ℕ → List ℕ
picture_output order b x quads o body = unless_refused (picture_write_checked b x quads (length o) body) o (splice o body (encode_body order b x quads))
