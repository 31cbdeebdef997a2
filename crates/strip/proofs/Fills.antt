-- A READ FILLS AS MANY NUMBERS OF EACH LIST AS ITS RECORD COUNTS, whatever it answers: so many are laid over the front, and the rest keep their contents.
use mathlib.Core.Path.{◌≡◌, refl, sym, ap, ◌∙◌}
use Prim.Native.Nat.{ℕ, zero, suc, ◌+◌, ◌-◌, ◌*◌, ◌/◌}
use native.Mathlib.Omega.{arith}
use mathlib.Core.Bool.{Bool, true, false, cond}
use mathlib.Core.List.{List, [], ◌∷◌}
use lib.ListN.{length}
use lib.Dec.{eqb}
use Rattle.core_read.specs.Taken.{sought, number_taken, over, Place}
use Rattle.core_read.specs.Lists.{numbers_taken, numbers_at}
use Rattle.core_read.specs.declared.cursor.ByteOrder.{ByteOrder}
use Rattle.core_read.proofs.Lists.{length_numbers}
use Rattle.core_checks.specs.Checks.{unless_refused, Extent}
use Rattle.pane_read.specs.Pane.{blank_pane}
use Rattle.pane_read.specs.declared.Pane.{Pane}
use Rattle.pane.specs.Body.{pane_read}
use Rattle.picture_fields.specs.Picture.{quads_of, blank_picture}
use Rattle.picture_fields.specs.declared.PictureFound.{PictureFound}
use Rattle.picture.specs.Body.{picture_start, picture_measured, picture_given, quads_filled, picture_read, quads_read, picture_parsed, quads_parsed}
use Rattle.text_box_parts.specs.Parts.{units_of, lines_of, LineTable}
use Rattle.text_box_parts.specs.declared.Text.{Text}
use Rattle.text_box_parts.specs.declared.Text.TheVariants as text
use Rattle.text_box_parts.proofs.Pairs.{length_pairs}
use Rattle.text_box_read.specs.TextBox.{blank_text_box, text_box_units, text_box_lines}
use Rattle.text_box_read.specs.declared.TextBoxFound.{TextBoxFound}
use Rattle.text_box.specs.Body.{text_box_measured, text_box_given, units_filled, lines_filled, text_box_read, text_box_start, units_after, lines_after}
use Rattle.window_read.specs.Window.{frame_taken, frames_taken, window_quads, window_frames, blank_window}
use Rattle.window_read.specs.declared.read.WindowFound.{WindowFound}
use Rattle.window.specs.Body as window
use Rattle.window.specs.Body.{window_measured, window_given, frames_filled, window_read, read_quads, read_frames, window_parsed, parsed_quads, parsed_frames}
use Rattle.alignment.specs.Body.{alignment_read}
use Rattle.strip_records.specs.Filled.{text_numbers, table_numbers, Numbers, numbers, numbers_of}
use Rattle.strip_records.specs.Kinds.{kind_of, KindFound}
use Rattle.strip_records.specs.Whole.{Lists, lists, no_lists, blank_record, pan1, pic1, txt1, wnd1, ali1}
use Rattle.strip_records.specs.declared.kind.Kind.{Kind}
use Rattle.strip_records.specs.declared.kind.Kind.TheVariants.{Pan1, Pic1, Txt1, Wnd1, Ali1}
use Rattle.strip_records.specs.declared.record.Record.{Record}
use Rattle.strip_kinds.specs.Body.{body_read, body_lists, body_parsed, lists_parsed}
use Rattle.strip_header.specs.Header.{read_start, header_taken}
use Rattle.strip_read.specs.Read.{refused_with, ended_with, passed_with, finished, read_body, by_kind, lists_by_kind, or_refused, read_at, lists_at, read_section, lists_after}
use Rattle.strip_read.specs.declared.read.SectionRead.{SectionRead}
use Rattle.std.specs.Prelude.{Err, None, Ok, Some}

-- the lists after are those before, l, with so many numbers laid over the front of each
pub record Fills (n : Numbers) (l after : Lists) : Type 0 where
  pub front : Lists
  pub counts : numbers (length front.quads) (length front.units) (length front.lines) (length front.frames) ≡ n
  pub laid : after ≡ lists (over front.quads l.quads) (over front.units l.units) (over front.lines l.lines) (over front.frames l.frames)

fills_none : (l : Lists) → Fills (numbers 0 0 0 0) l l
fills_none l = record { front = no_lists; counts = refl; laid = refl }

-- ---- how many numbers a run takes, refused or not

length_taken : (order : ByteOrder) (w n : ℕ) (s : List ℕ) (p : Place) → length (numbers_taken order w n s p).value ≡ n
unfolding numbers_taken
length_taken order w zero s p = refl
length_taken order w (suc n) s p = ap suc (length_taken order w n s (number_taken order w s p).then)

length_frames : (order : ByteOrder) (s : List ℕ) (from : ℕ) (offsets : List ℕ) (p : Place) → length (frames_taken order s from offsets p).value ≡ 2 * length offsets
unfolding frames_taken
length_frames order s from [] p = refl
length_frames order s from (offset ∷ offsets) p =
    let h = length_frames order s from offsets (frame_taken order s (sought s p (from + offset))).then in
    omega (arith, h)

pub units_count : (order : ByteOrder) (s : List ℕ) (x : Text) (long at : ℕ) → text_numbers x long ≡ length (units_of x (numbers_at order 2 (long / 2) s at))
units_count order s text.Absent long at = refl
units_count order s text.Present long at = sym (length_numbers order 2 (long / 2) s at)

pub lines_count : (order : ByteOrder) (s : List ℕ) (x : LineTable) (at : ℕ) → table_numbers x ≡ length (lines_of order s x at)
lines_count order s None at = refl
lines_count order s (Some count) at =
    let a = length_numbers order 4 count s (at + 1) in
    let b = length_numbers order 4 count s (at + 1 + 4 * count) in
    sym (length_pairs _ _ (a ∙ sym b) ∙ ap (λ (n : ℕ). 2 * n) a)

-- ---- each kind, by the place where its read ends

module _ (order : ByteOrder) (s : List ℕ) (l : Lists) where
  pic_read : (q : Place) (b : Pane) (x : PictureFound)
      → Fills (numbers_of (pic1 (unless_refused q blank_pane b) (unless_refused q blank_picture x.picture))) l
      (lists (unless_refused q l.quads (over (quads_of order s x) l.quads)) l.units l.lines l.frames)
  unfolding unless_refused quads_of blank_picture
  pic_read (Ok c) b x = record {
    front = lists (quads_of order s x) [] [] [];
    counts = ap (λ (n : ℕ). numbers n 0 0 0) (length_taken order 4 (8 * x.picture.quad_count) s (Ok x.quads));
    laid = refl;
  }
  pic_read (Err why) b x = fills_none l

  txt_read : (q : Place) (b : Pane) (x : TextBoxFound)
      → Fills (numbers_of (txt1 (unless_refused q blank_pane b) (unless_refused q blank_text_box x.text_box))) l
      (lists l.quads (unless_refused q l.units (over (text_box_units order s x) l.units)) (unless_refused q l.lines (over (text_box_lines order s x) l.lines)) l.frames)
  unfolding unless_refused blank_text_box
  txt_read (Ok c) b x =
      let u = units_count order s x.text_box.text x.text_box.text_length x.text_place in
      let t = lines_count order s x.text_box.line_table x.lines_place in
      record {
        front = lists [] (text_box_units order s x) (text_box_lines order s x) [];
        counts = ap (λ (n : ℕ). numbers 0 n (length (text_box_lines order s x)) 0) (sym u) ∙ ap (λ (n : ℕ). numbers 0 (text_numbers x.text_box.text x.text_box.text_length) n 0) (sym t);
        laid = refl;
      }
  txt_read (Err why) b x = fills_none l

  wnd_read : (q : Place) (b : Pane) (x : WindowFound) (body : ℕ)
      → Fills (numbers_of (wnd1 (unless_refused q blank_pane b) (unless_refused q blank_window x.window))) l
      (lists (unless_refused q l.quads (over (window_quads order s x) l.quads)) l.units l.lines (unless_refused q l.frames (over (window_frames order s x body) l.frames)))
  unfolding unless_refused window_quads window_frames blank_window
  wnd_read (Ok c) b x body =
      let table = numbers_taken order 4 x.window.frame_count s (Ok x.table) in
      let quads = length_taken order 4 (8 * x.window.content.quad_count) s (Ok x.quads) in
      let frames = length_frames order s (body - 8) table.value table.then ∙ ap (λ (n : ℕ). 2 * n) (length_taken order 4 x.window.frame_count s (Ok x.table)) in
      record {
        front = lists (window_quads order s x) [] [] (window_frames order s x body);
        counts = ap (λ (n : ℕ). numbers n 0 0 (length (window_frames order s x body))) quads ∙ ap (λ (n : ℕ). numbers (8 * x.window.content.quad_count) 0 0 n) frames;
        laid = refl;
      }
  wnd_read (Err why) b x body = fills_none l

  -- the body of a kind, read from a place of the run
  run_fills : (k : Kind) (p : Place) (body : ℕ) (x : Extent) → Fills (numbers_of (body_read order k s p body x).«record») l (body_lists order k s p body x l)
  unfolding body_read body_lists picture_read picture_given quads_read quads_filled text_box_read text_box_given units_after units_filled lines_after lines_filled window_read window_given read_quads window.quads_filled read_frames frames_filled
  run_fills Pan1 p body x = fills_none l
  run_fills Pic1 p body x = let m = picture_measured order s p body x in pic_read m.then m.value.base m.value.own
  run_fills Txt1 p body x = let m = text_box_measured order s p body x in txt_read m.then m.value.base m.value.own
  run_fills Wnd1 p body x = let m = window_measured order s p body x in wnd_read m.then m.value.base m.value.own body
  run_fills Ali1 p body x = fills_none l

  -- THE BODY CALL of a kind at B, with the lists l lent
  pub parsed_fills : (k : Kind) (body : ℕ) → Fills (numbers_of (body_parsed order k s body l).«record») l (lists_parsed order k s body l)
  unfolding body_parsed lists_parsed body_read body_lists picture_parsed quads_parsed window_parsed parsed_quads parsed_frames
  parsed_fills Pan1 body = fills_none l
  parsed_fills Pic1 body = run_fills Pic1 (picture_start (length s) body (length l.quads)) body None
  parsed_fills Txt1 body = run_fills Txt1 (text_box_start (length s) (length l.units) (length l.lines) body) body None
  parsed_fills Wnd1 body = run_fills Wnd1 (window.read_start (length s) body l.quads l.frames) body None
  parsed_fills Ali1 body = fills_none l

-- ---- the same with what a section read hands out of the record that was read

abbrev handed : Place → ℕ → Record → Record
handed q next r = (finished (q) next r).«record»

plain : (a : Place) (next : ℕ) (r : Record) (l : Lists) → numbers_of r ≡ numbers 0 0 0 0 → Fills (numbers_of (finished a next r).«record») l l
unfolding finished refused_with blank_record
plain (Ok c) next r l e = rw e (fills_none l)
plain (Err why) next r l e = fills_none l

module _ (order : ByteOrder) (s : List ℕ) (next : ℕ) (l : Lists) where
  pic_by : (q : Place) (b : Pane) (x : PictureFound)
      → Fills (numbers_of (handed q next (pic1 (unless_refused q blank_pane b) (unless_refused q blank_picture x.picture)))) l
      (lists (unless_refused q l.quads (over (quads_of order s x) l.quads)) l.units l.lines l.frames)
  unfolding unless_refused finished refused_with blank_record
  pic_by (Ok c) b x = pic_read order s l (Ok c) b x
  pic_by (Err why) b x = fills_none l

  txt_by : (q : Place) (b : Pane) (x : TextBoxFound)
      → Fills (numbers_of (handed q next (txt1 (unless_refused q blank_pane b) (unless_refused q blank_text_box x.text_box)))) l
      (lists l.quads (unless_refused q l.units (over (text_box_units order s x) l.units)) (unless_refused q l.lines (over (text_box_lines order s x) l.lines)) l.frames)
  unfolding unless_refused finished refused_with blank_record
  txt_by (Ok c) b x = txt_read order s l (Ok c) b x
  txt_by (Err why) b x = fills_none l

  wnd_by : (q : Place) (b : Pane) (x : WindowFound) (body : ℕ)
      → Fills (numbers_of (handed q next (wnd1 (unless_refused q blank_pane b) (unless_refused q blank_window x.window)))) l
      (lists (unless_refused q l.quads (over (window_quads order s x) l.quads)) l.units l.lines (unless_refused q l.frames (over (window_frames order s x body) l.frames)))
  unfolding unless_refused finished refused_with blank_record
  wnd_by (Ok c) b x body = wnd_read order s l (Ok c) b x body
  wnd_by (Err why) b x body = fills_none l

  -- the body of a kind
  body_fills : (k : Kind) (p : Place) (body : ℕ) → Fills (numbers_of (read_body order k s p body next).«record») l (body_lists order k s p body (Some next) l)
  unfolding read_body body_read body_lists picture_read picture_given quads_read quads_filled text_box_read text_box_given units_after units_filled lines_after lines_filled window_read window_given read_quads window.quads_filled read_frames frames_filled
  body_fills Pan1 p body = let r = pane_read order s p body (Some next) in plain r.answer next (pan1 r.base) l refl
  body_fills Pic1 p body = let m = picture_measured order s p body (Some next) in pic_by m.then m.value.base m.value.own
  body_fills Txt1 p body = let m = text_box_measured order s p body (Some next) in txt_by m.then m.value.base m.value.own
  body_fills Wnd1 p body = let m = window_measured order s p body (Some next) in wnd_by m.then m.value.base m.value.own body
  body_fills Ali1 p body = let r = alignment_read order s p body (Some next) in plain r.answer next (ali1 r.base r.own) l refl

-- ---- a section

-- a step that a check may stop
unless_fills : (q : Place) (r : SectionRead) (l after : Lists) → Fills (numbers_of r.«record») l after → Fills (numbers_of (or_refused q r).«record») l (unless_refused q l after)
unfolding or_refused unless_refused refused_with blank_record
unless_fills (Ok c) r l after h = h
unless_fills (Err why) r l after h = fills_none l

module _ (order : ByteOrder) (s : List ℕ) (l : Lists) where
  kind_fills : (k : KindFound) (p : Place) (body next : ℕ) → Fills (numbers_of (by_kind order k s p body next).«record») l (lists_by_kind order k s p body next l)
  unfolding by_kind lists_by_kind passed_with blank_record
  kind_fills (Some k) p body next = body_fills order s next l k p body
  kind_fills None p body next = fills_none l

  at_fills : (p : ℕ) → Fills (numbers_of (read_at order s p).«record») l (lists_at order s p l)
  unfolding read_at lists_at
  at_fills p =
      let h = header_taken order s p in
      unless_fills h.then _ l _ (kind_fills (kind_of h.value.letters) h.then (p + 8) (p + h.value.size))

  end_fills : (p : ℕ) (t : Bool) → Fills (numbers_of (cond t ended_with (read_at order s p)).«record») l (cond t l (lists_at order s p l))
  unfolding ended_with blank_record
  end_fills p true = fills_none l
  end_fills p false = at_fills p

  -- THE SECTION READ at p, with the lists l lent
  pub read_fills : (p : ℕ) → Fills (numbers_of (read_section order s p l).«record») l (lists_after order s p l)
  unfolding read_section lists_after
  read_fills p =
      unless_fills (read_start (length s) p (length l.quads) (length l.units) (length l.lines) (length l.frames)) _ l _ (end_fills p (eqb p (length s)))
