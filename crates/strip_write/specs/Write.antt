-- A section write: what it answers, and the output after it.
use Rattle.std.specs.Prelude.{ℕ, ◌+◌, List, ◌++◌, length, replicate, Ok}
use Rattle.core_read.specs.Bytes.{bytes_of, padding, splice}
use Rattle.core_read.specs.Taken.{start, Place}
use Rattle.core_checks.specs.Checks.{length_checked, section_checked, end_checked, unless_refused, written_of, Written}
use Rattle.core_read.specs.declared.cursor.ByteOrder.{ByteOrder}
use Rattle.pane_read.specs.Pane.{encode_pane}
use Rattle.pane_checks.specs.Checks.{names_checked, reserve_checked}
use Rattle.picture_fields.specs.Picture.{picture_checked}
use Rattle.picture.specs.Body as picture
use Rattle.text_box_parts.specs.Parts.{label_part}
use Rattle.text_box_checks.specs.Checks.{label_length_checked, label_name_checked, text_box_checked}
use Rattle.text_box_write.specs.Written.{text_box_length}
use Rattle.text_box.specs.Body as text-box
use Rattle.window_write.specs.Write.{window_checked}
use Rattle.window.specs.Body as window
use Rattle.alignment.specs.Body as alignment
use Rattle.strip_records.specs.Kinds.{letter_bytes}
use Rattle.strip_records.specs.Whole.{Whole}
use Rattle.strip_records.specs.declared.kind.Kind.{Kind}
use Rattle.strip_records.specs.declared.kind.Kind.TheVariants.{Pan1, Pic1, Txt1, Wnd1, Ali1}
use Rattle.strip_records.specs.declared.record.Record.{Record}

-- how many bytes the body of w has at B, and these bytes: the base and what its kind adds. Aligning goes by the absolute place
abbrev pub body_length : Kind → ℕ → Whole → ℕ
body_length Pan1 body w = 76
body_length Pic1 body w = picture.body_length w.pane.picture w.lists.quads
body_length Txt1 body w = 76 + text_box_length body w.pane.text_box w.lists.units w.lists.lines w.label
body_length Wnd1 body w = window.body_length body w.lists.quads w.lists.frames
body_length Ali1 body w = 88

unfoldable pub encode_body : Kind → ByteOrder → ℕ → Whole → List ℕ
encode_body Pan1 order body w = encode_pane order w.pane.base
encode_body Pic1 order body w = picture.encode_body order w.pane.base w.pane.picture w.lists.quads
encode_body Txt1 order body w = text-box.encode_body order body w.pane.base w.pane.text_box w.lists.units w.lists.lines w.label
encode_body Wnd1 order body w = window.encode_body order body w.pane.base w.pane.window w.lists.quads w.lists.frames
encode_body Ali1 order body w = alignment.encode_body order w.pane.base w.pane.alignment

-- header, body of n bytes, and zeros to a multiple of 4
unfoldable pub section_size : ℕ → ℕ
section_size n = 8 + n + padding n

abbrev pub size_of : ℕ → Whole → ℕ
size_of p w = section_size (body_length w.pane.kind (p + 8) w)

-- the section of w at p: four letters, the size, the body, zeros to a multiple of 4
unfoldable pub section : ByteOrder → ℕ → Whole → List ℕ
section order p w =
    letter_bytes w.pane.kind
    ++ (bytes_of order 4 (size_of p w)
    ++ (encode_body w.pane.kind order (p + 8) w ++ replicate (padding (body_length w.pane.kind (p + 8) w)) 0))

-- the end of its padding
abbrev pub section_end : ℕ → Whole → ℕ
section_end p w = p + size_of p w

-- 1 and 9 of a label to write
unfoldable pub own_length_checked : Kind → Place → Record → List ℕ → Place
own_length_checked Pan1 p r label = p
own_length_checked Pic1 p r label = p
own_length_checked Txt1 p r label = label_length_checked p (label_part r.text_box.label label)
own_length_checked Wnd1 p r label = p
own_length_checked Ali1 p r label = p

unfoldable pub own_name_checked : Kind → Place → Record → List ℕ → Place
own_name_checked Pan1 p r label = p
own_name_checked Pic1 p r label = p
own_name_checked Txt1 p r label = label_name_checked p (label_part r.text_box.label label)
own_name_checked Wnd1 p r label = p
own_name_checked Ali1 p r label = p

-- 11 to 15, of the kinds that have lists
unfoldable pub own_checked : Kind → Place → Whole → Place
own_checked Pan1 p w = p
own_checked Pic1 p w = picture_checked p w.lists.quads
own_checked Txt1 p w = text_box_checked p w.pane.text_box w.lists.units w.lists.lines
own_checked Wnd1 p w = window_checked p w.lists.quads w.lists.frames
own_checked Ali1 p w = p

-- 1 (the output, then a label), 2, 9 (names, then a label), 10, the kind's own, and 16 of a write into n bytes
unfoldable pub write_checked : Whole → ℕ → ℕ → Place
write_checked w n p =
    let k : Kind = w.pane.kind in
    let p1 : Place = length_checked (Ok (start p)) n in
    let p2 : Place = own_length_checked k p1 w.pane w.label in
    let p3 : Place = section_checked p2 n p in
    let p4 : Place = names_checked p3 w.pane.base in
    let p5 : Place = own_name_checked k p4 w.pane w.label in
    let p6 : Place = reserve_checked p5 w.pane.base in
    let p7 : Place = own_checked k p6 w in
    end_checked p7 (section_end p w) n

-- THE SECTION WRITE of w at p of an output o of n bytes: its answer, and the output after it
unfoldable pub write_answer : Whole → ℕ → ℕ → Written
write_answer w n p = written_of (write_checked w n p) (section_end p w)

unfoldable pub write_output : ByteOrder → Whole → List ℕ → ℕ → List ℕ
write_output order w o p = unless_refused (write_checked w (length o) p) o (splice o p (section order p w))
