-- A body that a write lets through is read back, kind by kind, anywhere in a buffer.
use mathlib.Core.Path.{◌≡◌, refl, sym, ap, ◌∙◌}
use Prim.Native.Nat.{ℕ, ◌+◌, ◌*◌, ◌/◌, ◌%◌, ◌≤◌}
use native.Mathlib.Omega.{arith}
use mathlib.Core.List.{List}
use lib.ListN.{length, take, drop}
use lib.Seq.{take-append_seam}
use Rattle.core_read.specs.Taken.{advanced, over, Place}
use Rattle.core_checks.specs.Checks.{reach_checked, unless_refused, Extent}
use Rattle.core_read.specs.declared.cursor.ByteOrder.{ByteOrder}
use Rattle.core_read.specs.declared.cursor.Cursor.{Cursor}
use Rattle.core_read.proofs.Cursors.{pos_advanced, pos_moved, advanced_more, reach_level}
use Rattle.core_read.proofs.Back.{Holds, split, Fit}
use Rattle.pane_read.specs.Pane.{encode_pane}
use Rattle.pane.specs.Body.{pane_measured, pane_given, pane_read}
use Rattle.pane.proofs.Cleared.{Good, sound}
use Rattle.pane.proofs.Back.{read_back, length_pane, pane_back, texts_back}
use Rattle.picture_fields.specs.Picture.{picture_taken, blank_picture, picture_quads, picture_length, encode_picture}
use Rattle.picture.specs.Body as picture
use Rattle.picture_fields.specs.declared.PictureFound.{PictureFound}
use Rattle.pane_read.specs.declared.parsed.Measured.{Measured}
use Rattle.core_read.specs.Taken.{Taken}
use Rattle.picture_fields.specs.declared.PicturePane.{PicturePane}
use Rattle.picture.proofs.Back as picture-laws
use Rattle.text_box_read.specs.TextBox.{text_box_taken, blank_text_box, text_box_units, text_box_lines}
use Rattle.text_box_caption.specs.Caption.{label_of}
use Rattle.text_box_write.specs.Written.{encode_text_box}
use Rattle.text_box.specs.Body as text-box
use Rattle.text_box.specs.Same as text_box_same
use Rattle.text_box_read.specs.declared.TextBoxPane.{TextBoxPane}
use Rattle.text_box_read.specs.declared.TextBoxFound.{TextBoxFound}
use Rattle.text_box.proofs.Equal as text-box-laws
use Rattle.window_read.specs.Window.{window_taken, blank_window}
use Rattle.window_write.specs.Write.{window_length, encode_window}
use Rattle.window.specs.Body as window
use Rattle.window_read.specs.declared.read.WindowFound.{WindowFound}
use Rattle.window_read.specs.declared.WindowPane.{WindowPane}
use Rattle.window.proofs.Back as window-laws
use Rattle.window.proofs.Fields.{read_back_content}
use Rattle.alignment_fields.specs.Alignment.{blank_alignment, encode_alignment}
use Rattle.alignment.specs.Body as alignment
use Rattle.alignment_fields.specs.declared.AlignmentPane.{AlignmentPane}
use Rattle.alignment.proofs.Back as alignment-laws
use Rattle.strip_records.specs.Whole.{Lists, Whole}
use Rattle.strip.specs.Same.{SameOwn, read_whole}
use Rattle.strip_records.specs.Typed.{Typed}
use Rattle.strip_kinds.specs.Body.{body_read, body_lists}
use Rattle.strip_write.specs.Write.{body_length, encode_body}
use Rattle.strip_records.specs.declared.kind.Kind.{Kind}
use Rattle.strip_records.specs.declared.kind.Kind.TheVariants.{Pan1, Pic1, Txt1, Wnd1, Ali1}
use Rattle.strip_records.specs.declared.record.Record.{Record}
use Rattle.strip_kinds.specs.declared.body.BodyRead.{BodyRead}
use Rattle.strip.proofs.Below.{below_fit, below_at}
use Rattle.strip.proofs.Fills.{units_count, lines_count}
use Rattle.strip_write.proofs.Cleared.{OwnGood}
use Rattle.std.specs.Prelude.{Ok}

-- what the types and a write's checks say of a record with its lists and label
pub record GoodWhole (w : Whole) : Type 0 where
  pub typed : Typed w
  pub good : Good w.pane.base
  pub own : OwnGood w.pane.kind w

-- what reading a record that was written gives, its body at B and the cursor there: the base with zeros after its names, counts of the lists, and blank what the kind lacks
abbrev pub own_picture : Kind → Whole → PicturePane
own_picture Pan1 w = blank_picture
own_picture Pic1 w = picture-laws.read_back_picture w.pane.picture w.lists.quads
own_picture Txt1 w = blank_picture
own_picture Wnd1 w = blank_picture
own_picture Ali1 w = blank_picture

abbrev pub own_text_box : Kind → Cursor → ℕ → Whole → TextBoxPane
own_text_box Pan1 c body w = blank_text_box
own_text_box Pic1 c body w = blank_text_box
own_text_box Txt1 c body w = (text-box-laws.read_back body (advanced c 76) w.pane.text_box w.lists.units w.lists.lines w.label).value.text_box
own_text_box Wnd1 c body w = blank_text_box
own_text_box Ali1 c body w = blank_text_box

abbrev pub own_window : Kind → Whole → WindowPane
own_window Pan1 w = blank_window
own_window Pic1 w = blank_window
own_window Txt1 w = blank_window
own_window Wnd1 w = window-laws.read_back_window w.pane.window w.lists.quads w.lists.frames
own_window Ali1 w = blank_window

abbrev pub own_alignment : Kind → Whole → AlignmentPane
own_alignment Pan1 w = blank_alignment
own_alignment Pic1 w = blank_alignment
own_alignment Txt1 w = blank_alignment
own_alignment Wnd1 w = blank_alignment
own_alignment Ali1 w = w.pane.alignment

unfoldable pub read_record : Kind → Cursor → ℕ → Whole → Record
read_record k c body w = record {
  kind = k;
  base = read_back w.pane.base;
  picture = own_picture k w;
  text_box = own_text_box k c body w;
  window = own_window k w;
  alignment = own_alignment k w;
}

-- where the read of a body at B that was written as that of w ends, and how far it looks: where B is a multiple of 4, at all that was written
abbrev pub body_end : Kind → ℕ → Whole → ℕ
body_end Pan1 body w = body + 76
body_end Pic1 body w = body + picture.body_length w.pane.picture w.lists.quads
body_end Txt1 body w = body + 160
body_end Wnd1 body w = body + 104
body_end Ali1 body w = body + 88

abbrev pub body_reach : Kind → ℕ → Whole → ℕ
body_reach k body w = body + body_length k body w

-- an extent that such a body keeps to
abbrev pub Kept : Extent → Kind → ℕ → Whole → Type 0
Kept x k body w = (d : Cursor) → d.reach ≡ body_reach k body w → reach_checked (Ok d) x ≡ Ok d

-- such a body is read so, and its own part is equal to that of w
pub record BodyBack (order : ByteOrder) (s : List ℕ) (c : Cursor) (body : ℕ) (x : Extent) (k : Kind) (w : Whole) : Type 0 where
  pub read : ◌≡◌ {A = BodyRead} (body_read order k s (Ok c) body x) (record { answer = Ok (record { pos = body_end k body w; reach = body_reach k body w }); «record» = read_record k c body w })
  pub own : (l : Lists) → SameOwn k (read_whole s (read_record k c body w) (body_lists order k s (Ok c) body x l)) w

-- the answer of a run by its two figures
parsed_at : (d : Cursor) (end reach : ℕ) → d.pos ≡ end → d.reach ≡ reach → ◌≡◌ {A = Place} (Ok d) (Ok (record { pos = end; reach = reach }))
parsed_at d end reach e f = rw (← e, ← f)

-- a list over the front of another
front : (n : ℕ) (l old : List ℕ) → n ≡ length l → take n (over l old) ≡ l
front n l old h = rw h (take-append_seam l (drop (length l) old))

-- n bytes of a body with no seek, by a run that has looked as far as it stands
looked : (c : Cursor) (body : ℕ) → c.pos ≡ body → c.reach ≡ c.pos → (n : ℕ) → (advanced c n).reach ≡ body + n
looked c body here level n = reach_level c level n ∙ omega (arith, here)

straight : (c : Cursor) (body : ℕ) → c.pos ≡ body → c.reach ≡ c.pos → (n : ℕ) → ◌≡◌ {A = Place} (Ok (advanced c n)) (Ok (record { pos = body + n; reach = body + n }))
straight c body here level n =
    parsed_at (advanced c n) (body + n) (body + n) (pos_advanced c n ∙ omega (arith, here)) (looked c body here level n)

base_level : (c : Cursor) → c.reach ≡ c.pos → (advanced c 76).reach ≡ (advanced c 76).pos
base_level c level = reach_level c level 76 ∙ sym (pos_advanced c 76)

module _ {s : List ℕ} (order : ByteOrder) (c : Cursor) (body : ℕ) (x : Extent) (w : Whole) (t : Typed w) (g : Good w.pane.base) (here : c.pos ≡ body) (level : c.reach ≡ c.pos) where
  -- ---- pan1

  pan_back : Kept x Pan1 body w → Holds s c.pos (encode_body Pan1 order body w) → BodyBack order s c body x Pan1 w
  unfolding body_read body_lists encode_body read_record SameOwn pane_read pane_given pane_measured unless_refused
  pan_back kept h = record {
    read = rw (
      pane_back c order w.pane.base t.pane.base g h,
      texts_back w.pane.base g (advanced c 76) body,
      kept (advanced c 76) (looked c body here level 76),
      straight c body here level 76,
    );
    own = λ l. tt;
  }

  -- ---- ali1

  ali_back : Kept x Ali1 body w → Holds s c.pos (encode_body Ali1 order body w) → BodyBack order s c body x Ali1 w
  unfolding body_read body_lists encode_body read_record SameOwn alignment.alignment_read alignment.alignment_given alignment.alignment_measured alignment.encode_body unless_refused
  ali_back kept h =
      let b = w.pane.base in
      let a = w.pane.alignment in
      let (h₁, h₂) = split (encode_pane order b) (encode_alignment order a) 76 (length_pane order b (sound b g)) h in
      let h₃ : Holds s (advanced c 76).pos (encode_alignment order a) = rw pos_advanced h₂ in
      record {
        read = rw (
          pane_back c order b t.pane.base g h₁,
          alignment-laws.alignment_back (advanced c 76) order a t.pane.alignment h₃,
          texts_back b g (advanced (advanced c 76) 12) body,
          advanced_more c 76 12,
          kept (advanced c 88) (looked c body here level 88),
          straight c body here level 88,
        );
        own = λ l. refl;
      }

  -- ---- pic1

  module _ (kept : Kept x Pic1 body w) (o : OwnGood Pic1 w) (h : Holds s c.pos (encode_body Pic1 order body w)) where
    pic_base : Holds s c.pos (encode_pane order w.pane.base) × Holds s (advanced c 76).pos (encode_picture order w.pane.picture w.lists.quads)
    unfolding encode_body picture.encode_body
    pic_base =
        let (h₁, h₂) = split (encode_pane order w.pane.base) (encode_picture order w.pane.picture w.lists.quads) 76 (length_pane order w.pane.base (sound _ g)) h in
        (h₁, rw pos_advanced h₂)

    pic_fit : Fit 4 w.lists.quads
    pic_fit = below_fit 4 w.lists.quads t.quads

    pic_measured : ◌≡◌ {A = Taken (Measured PictureFound)} (picture.picture_measured order s (Ok c) body x) (record {
      value = record { base = read_back w.pane.base; own = (picture_taken order s (Ok (advanced c 76))).value };
      then = Ok (advanced c (76 + picture_length w.pane.picture w.lists.quads));
    })
    unfolding picture.picture_measured picture.body_length OwnGood
    pic_measured =
        let a = w.pane.picture in
        let q = w.lists.quads in
        rw (
          pane_back c order w.pane.base t.pane.base g pic_base.0,
          picture-laws.picture_back (advanced c 76) order a q t.pane.picture o pic_fit pic_base.1,
          texts_back w.pane.base g (advanced (advanced c 76) (picture_length a q)) body,
          advanced_more c 76 (picture_length a q),
          kept (advanced c (76 + picture_length a q)) (looked c body here level (76 + picture_length a q)),
        )

    pic_quads : (old : List ℕ) → picture.quads_read order s (Ok c) body x old ≡ over w.lists.quads old
    unfolding picture.quads_read picture.quads_filled OwnGood picture_quads unless_refused
    pic_quads old =
        rw (
          pic_measured,
          picture-laws.quads_back (advanced c 76) order w.pane.picture w.lists.quads t.pane.picture o pic_fit pic_base.1,
        )

    pic_back : BodyBack order s c body x Pic1 w
    unfolding body_read body_lists read_record SameOwn OwnGood picture.picture_read picture.picture_given picture.body_length unless_refused picture-laws.read_back_picture
    pic_back =
        let a = w.pane.picture in
        let q = w.lists.quads in
        record {
          read = rw (
            pic_measured,
            picture-laws.picture_back (advanced c 76) order a q t.pane.picture o pic_fit pic_base.1,
            straight c body here level (76 + picture_length a q),
          );
          own = λ l.
              let n : 8 * (length q / 8) ≡ length q = omega (arith, o.whole) in
              rw (pic_quads l.quads, front (8 * (length q / 8)) q l.quads n) (picture-laws.read_same a q);
        }

  -- ---- wnd1

  module _ (kept : Kept x Wnd1 body w) (o : OwnGood Wnd1 w) (low : 8 ≤ body) (whole : body % 4 ≡ 0) (h : Holds s c.pos (encode_body Wnd1 order body w)) where
    wnd_base : Holds s c.pos (encode_pane order w.pane.base) × Holds s (advanced c 76).pos (encode_window order body w.pane.window w.lists.quads w.lists.frames)
    unfolding encode_body window.encode_body
    wnd_base =
        let (h₁, h₂) = split (encode_pane order w.pane.base) (encode_window order body w.pane.window w.lists.quads w.lists.frames) 76 (length_pane order w.pane.base (sound _ g)) h in
        (h₁, rw pos_advanced h₂)

    wnd_here : (advanced c 76).pos ≡ body + 76
    wnd_here = pos_advanced c 76 ∙ ap (λ (n : ℕ). n + 76) here

    wnd_quads_fit : Fit 4 w.lists.quads
    wnd_quads_fit = below_fit 4 w.lists.quads t.quads

    wnd_frames_fit : Fit 2 w.lists.frames
    wnd_frames_fit = below_fit 2 w.lists.frames t.frames

    abbrev wnd_end : Cursor
    wnd_end = window-laws.after_window (advanced c 76) body (length w.lists.quads) (length w.lists.frames)

    wnd_reach : wnd_end.reach ≡ body + (76 + window_length body (length w.lists.quads) (length w.lists.frames))
    wnd_reach = window-laws.reach_window (advanced c 76) body (length w.lists.quads) (length w.lists.frames) (base_level c level) wnd_here whole ∙ omega arith

    wnd_measured : ◌≡◌ {A = Taken (Measured WindowFound)} (window.window_measured order s (Ok c) body x) (record {
      value = record { base = read_back w.pane.base; own = (window_taken order s (Ok (advanced c 76)) body).value };
      then = Ok wnd_end;
    })
    unfolding window.window_measured window.body_length OwnGood
    wnd_measured =
        rw (
          pane_back c order w.pane.base t.pane.base g wnd_base.0,
          window-laws.window_back (advanced c 76) order body w.pane.window w.lists.quads w.lists.frames t.pane.window o wnd_quads_fit wnd_frames_fit low wnd_here wnd_base.1,
          texts_back w.pane.base g wnd_end body,
          kept wnd_end wnd_reach,
        )

    wnd_quads : (old : List ℕ) → window.read_quads order s (Ok c) body x old ≡ over w.lists.quads old
    unfolding window.read_quads window.quads_filled OwnGood unless_refused
    wnd_quads old =
        rw (
          wnd_measured,
          window-laws.quads_back (advanced c 76) order body w.pane.window w.lists.quads w.lists.frames t.pane.window o wnd_quads_fit wnd_frames_fit low wnd_here wnd_base.1,
        )

    wnd_frames : (old : List ℕ) → window.read_frames order s (Ok c) body x old ≡ over w.lists.frames old
    unfolding window.read_frames window.frames_filled OwnGood unless_refused
    wnd_frames old =
        rw (
          wnd_measured,
          window-laws.frames_back (advanced c 76) order body w.pane.window w.lists.quads w.lists.frames t.pane.window o wnd_quads_fit wnd_frames_fit low wnd_here wnd_base.1,
        )

    wnd_back : BodyBack order s c body x Wnd1 w
    unfolding body_read body_lists read_record SameOwn OwnGood window.window_read window.window_given window.body_length unless_refused window-laws.read_back_window read_back_content
    wnd_back =
        let a = w.pane.window in
        let q = w.lists.quads in
        let f = w.lists.frames in
        record {
          read = rw (
            wnd_measured,
            parsed_at wnd_end (body + 104) (body + (76 + window_length body (length q) (length f))) (pos_moved _ _) wnd_reach,
            window-laws.window_back (advanced c 76) order body a q f t.pane.window o wnd_quads_fit wnd_frames_fit low wnd_here wnd_base.1,
          );
          own = λ l.
              let n : 8 * (length q / 8) ≡ length q = omega (arith, o.whole_quads) in
              let m : 2 * (length f / 2) ≡ length f = omega (arith, o.whole_frames) in
              rw (
                wnd_quads l.quads,
                wnd_frames l.frames,
                front (8 * (length q / 8)) q l.quads n,
                front (2 * (length f / 2)) f l.frames m,
              )
              (window-laws.read_same a q f);
        }

  -- ---- txt1

  module _ (kept : Kept x Txt1 body w) (o : OwnGood Txt1 w) (low : 8 ≤ body) (h : Holds s c.pos (encode_body Txt1 order body w)) where
    txt_base : Holds s c.pos (encode_pane order w.pane.base) × Holds s (advanced c 76).pos (encode_text_box order body w.pane.text_box w.lists.units w.lists.lines w.label)
    unfolding encode_body text-box.encode_body
    txt_base =
        let (h₁, h₂) =
        split (encode_pane order w.pane.base) (encode_text_box order body w.pane.text_box w.lists.units w.lists.lines w.label) 76 (length_pane order w.pane.base (sound _ g)) h in
        (h₁, rw pos_advanced h₂)

    txt_here : (advanced c 76).pos ≡ body + 76
    txt_here = pos_advanced c 76 ∙ ap (λ (n : ℕ). n + 76) here

    abbrev Read : Taken TextBoxFound
    Read = text-box-laws.read_back body (advanced c 76) w.pane.text_box w.lists.units w.lists.lines w.label

    abbrev Found : TextBoxFound
    Found = Read.value

    txt_own : text_box_taken order s (Ok (advanced c 76)) body ≡ Read
    unfolding OwnGood
    txt_own =
        text-box-laws.text_box_back s (advanced c 76) order body txt_here low w.pane.text_box w.lists.units w.lists.lines w.label
        t.pane.text_box o (below_at 2 _ t.units) (below_at 4 _ t.lines) txt_base.1

    txt_same : text_box_same.SameTextBox
        (record { box = Found.text_box; units = text_box_units order s Found; lines = text_box_lines order s Found; label = label_of s Found.text_box.label })
        (record { box = w.pane.text_box; units = w.lists.units; lines = w.lists.lines; label = w.label })
    unfolding OwnGood
    txt_same =
        text-box-laws.read_same s (advanced c 76) order body txt_here low w.pane.text_box w.lists.units w.lists.lines w.label
        t.pane.text_box o (below_at 2 _ t.units) (below_at 4 _ t.lines) txt_base.1

    abbrev txt_after : Cursor
    txt_after = text-box-laws.after_box body (advanced c 76) w.pane.text_box w.lists.units w.lists.lines w.label

    txt_then : Read.then ≡ Ok txt_after
    txt_then = text-box-laws.then_back body (advanced c 76) w.pane.text_box w.lists.units w.lists.lines w.label

    txt_reach : txt_after.reach ≡ body_reach Txt1 body w
    txt_reach =
        text-box-laws.reach_box body (advanced c 76) w.pane.text_box w.lists.units w.lists.lines w.label low txt_here (base_level c level) ∙ omega arith

    txt_answer : ◌≡◌ {A = Place} (Ok txt_after) (Ok (record { pos = body_end Txt1 body w; reach = body_reach Txt1 body w }))
    txt_answer = parsed_at txt_after _ _ (text-box-laws.pos_box body (advanced c 76) w.pane.text_box w.lists.units w.lists.lines w.label txt_here) txt_reach

    txt_measured : ◌≡◌ {A = Taken (Measured TextBoxFound)} (text-box.text_box_measured order s (Ok c) body x) (record { value = record { base = read_back w.pane.base; own = Found }; then = Ok txt_after })
    unfolding text-box.text_box_measured OwnGood
    txt_measured =
        rw (
          pane_back c order w.pane.base t.pane.base g txt_base.0,
          txt_own,
          txt_then,
          texts_back w.pane.base g txt_after body,
          text-box-laws.label_passes s (advanced c 76) txt_after order body txt_here low w.pane.text_box w.lists.units w.lists.lines w.label
              t.pane.text_box o (below_at 2 _ t.units) (below_at 4 _ t.lines) txt_base.1,
          kept txt_after txt_reach,
        )

    txt_units : (old : List ℕ) → text-box.units_after order s (Ok c) body x old ≡ over (text_box_units order s Found) old
    unfolding text-box.units_after text-box.units_filled unless_refused
    txt_units old = rw txt_measured

    txt_lines : (old : List ℕ) → text-box.lines_after order s (Ok c) body x old ≡ over (text_box_lines order s Found) old
    unfolding text-box.lines_after text-box.lines_filled unless_refused
    txt_lines old = rw txt_measured

    txt_back : BodyBack order s c body x Txt1 w
    unfolding body_read body_lists read_record SameOwn text-box.text_box_read text-box.text_box_given unless_refused
    txt_back = record {
      read = rw (txt_measured, txt_answer);
      own = λ l.
          rw (
            txt_units l.units,
            txt_lines l.lines,
            front _ (text_box_units order s Found) l.units (units_count order s Found.text_box.text Found.text_box.text_length Found.text_place),
            front _ (text_box_lines order s Found) l.lines (lines_count order s Found.text_box.line_table Found.lines_place),
          )
          txt_same;
    }

-- every kind
pub body_back : {s : List ℕ} (order : ByteOrder) (c : Cursor) (body : ℕ) (x : Extent) (k : Kind) (w : Whole) → Kept x k body w → Typed w → Good w.pane.base → OwnGood k w
    → 8 ≤ body → body % 4 ≡ 0 → c.pos ≡ body → c.reach ≡ c.pos → Holds s c.pos (encode_body k order body w) → BodyBack order s c body x k w
body_back order c body x Pan1 w e t g o low whole here level h = pan_back order c body x w t g here level e h
body_back order c body x Pic1 w e t g o low whole here level h = pic_back order c body x w t g here level e o h
body_back order c body x Txt1 w e t g o low whole here level h = txt_back order c body x w t g here level e o low h
body_back order c body x Wnd1 w e t g o low whole here level h = wnd_back order c body x w t g here level e o low whole h
body_back order c body x Ali1 w e t g o low whole here level h = ali_back order c body x w t g here level e h
