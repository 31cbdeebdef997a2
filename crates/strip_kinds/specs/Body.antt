-- The body of a pane of any kind, read, and the lists after it: from a place of a run, and as a call.
use Rattle.std.specs.Prelude.{ℕ, List, length, None}
use Rattle.core_read.specs.declared.cursor.ByteOrder.{ByteOrder}
use Rattle.pane_read.specs.declared.parsed.Parsed.{Parsed}
use Rattle.picture_fields.specs.declared.PicturePane.{PicturePane}
use Rattle.text_box_read.specs.declared.TextBoxPane.{TextBoxPane}
use Rattle.window_read.specs.declared.WindowPane.{WindowPane}
use Rattle.alignment_fields.specs.declared.AlignmentPane.{AlignmentPane}
use Rattle.pane.specs.Body.{pane_read, pane_parsed}
use Rattle.picture.specs.Body.{picture_read, picture_parsed, quads_read, quads_parsed}
use Rattle.text_box.specs.Body.{text_box_start, text_box_read, units_after, lines_after}
use Rattle.window.specs.Body.{window_read, window_parsed, read_quads, read_frames, parsed_quads, parsed_frames}
use Rattle.alignment.specs.Body.{alignment_read, alignment_parsed}
use Rattle.strip_records.specs.Whole.{Lists, lists, pan1, pic1, txt1, wnd1, ali1}
use Rattle.strip_records.specs.declared.kind.Kind.{Kind}
use Rattle.strip_records.specs.declared.kind.Kind.TheVariants.{Pan1, Pic1, Txt1, Wnd1, Ali1}
use Rattle.strip_kinds.specs.declared.body.BodyRead.{BodyRead}
use Rattle.core_checks.specs.Checks.{Extent}
use Rattle.core_read.specs.Taken.{Place}

-- the body of a kind at B, read by a run that stands at p, in a buffer or in a section; what the other kinds have is blank
unfoldable pub body_read : ByteOrder → Kind → List ℕ → Place → ℕ → Extent → BodyRead
body_read order Pan1 s p body extent =
    let r : Parsed (Unit {0}) = pane_read order s p body extent in
    record { answer = r.answer; «record» = pan1 r.base }
body_read order Pic1 s p body extent =
    let r : Parsed PicturePane = picture_read order s p body extent in
    record { answer = r.answer; «record» = pic1 r.base r.own }
body_read order Txt1 s p body extent =
    let r : Parsed TextBoxPane = text_box_read order s p body extent in
    record { answer = r.answer; «record» = txt1 r.base r.own }
body_read order Wnd1 s p body extent =
    let r : Parsed WindowPane = window_read order s p body extent in
    record { answer = r.answer; «record» = wnd1 r.base r.own }
body_read order Ali1 s p body extent =
    let r : Parsed AlignmentPane = alignment_read order s p body extent in
    record { answer = r.answer; «record» = ali1 r.base r.own }

-- the lists after it: the numbers read over the front of those that the kind takes, where nothing was refused
unfoldable pub body_lists : ByteOrder → Kind → List ℕ → Place → ℕ → Extent → Lists → Lists
body_lists order Pan1 s p body extent l = l
body_lists order Pic1 s p body extent l = lists (quads_read order s p body extent l.quads) l.units l.lines l.frames
body_lists order Txt1 s p body extent l = lists l.quads (units_after order s p body extent l.units) (lines_after order s p body extent l.lines) l.frames
body_lists order Wnd1 s p body extent l = lists (read_quads order s p body extent l.quads) l.units l.lines (read_frames order s p body extent l.frames)
body_lists order Ali1 s p body extent l = l

-- THE BODY CALL of a kind at B, with the lists l lent: 1, 2, 3 of the lists that the kind takes, and then that read
unfoldable pub body_parsed : ByteOrder → Kind → List ℕ → ℕ → Lists → BodyRead
body_parsed order Pan1 s body l =
    let r : Parsed (Unit {0}) = pane_parsed order s body in
    record { answer = r.answer; «record» = pan1 r.base }
body_parsed order Pic1 s body l =
    let r : Parsed PicturePane = picture_parsed order s body (length l.quads) in
    record { answer = r.answer; «record» = pic1 r.base r.own }
body_parsed order Txt1 s body l =
    let r : Parsed TextBoxPane = text_box_read order s (text_box_start (length s) (length l.units) (length l.lines) body) body None in
    record { answer = r.answer; «record» = txt1 r.base r.own }
body_parsed order Wnd1 s body l =
    let r : Parsed WindowPane = window_parsed order s body l.quads l.frames in
    record { answer = r.answer; «record» = wnd1 r.base r.own }
body_parsed order Ali1 s body l =
    let r : Parsed AlignmentPane = alignment_parsed order s body in
    record { answer = r.answer; «record» = ali1 r.base r.own }

-- the lists after it
abbrev pub units_parsed : ByteOrder → List ℕ → ℕ → List ℕ → List ℕ → List ℕ
units_parsed order s body units lines = units_after order s (text_box_start (length s) (length units) (length lines) body) body None units

abbrev pub lines_parsed : ByteOrder → List ℕ → ℕ → List ℕ → List ℕ → List ℕ
lines_parsed order s body units lines = lines_after order s (text_box_start (length s) (length units) (length lines) body) body None lines

unfoldable pub lists_parsed : ByteOrder → Kind → List ℕ → ℕ → Lists → Lists
lists_parsed order Pan1 s body l = l
lists_parsed order Pic1 s body l = lists (quads_parsed order s body l.quads) l.units l.lines l.frames
lists_parsed order Txt1 s body l = lists l.quads (units_parsed order s body l.units l.lines) (lines_parsed order s body l.units l.lines) l.frames
lists_parsed order Wnd1 s body l =
    lists (parsed_quads order s body l.quads l.frames) l.units l.lines (parsed_frames order s body l.quads l.frames)
lists_parsed order Ali1 s body l = l
