-- The read of a body, kind by kind, as a run of steps.
use mathlib.Core.Path.{◌≡◌, refl, sym, ap, ◌∙◌}
use Prim.Native.Nat.{ℕ, ◌+◌, ◌-◌, ◌≤◌}
use native.Mathlib.Omega.{arith}
use mathlib.Core.Bool.{Bool, false, not}
use mathlib.Core.List.{List}
use lib.ListN.{length}
use lib.Dec.{lit≤}
use Rattle.utf8.specs.Utf8.{well_formed}
use Rattle.core_read.specs.Taken.{start, stop_if, Place}
use Rattle.core_read.specs.declared.error.Refusal.TheVariants.{IllFormedUtf8}
use Rattle.core_read.specs.declared.cursor.ByteOrder.{ByteOrder}
use Rattle.core_read.specs.declared.cursor.Cursor.{Cursor}
use Rattle.core_read.proofs.Cursors.{pos_start, pos_advanced, reach_start, reach_covers, reach_level}
use Rattle.core_checks.specs.Checks.{reach_checked, unless_refused, Extent}
use Rattle.core_checks.proofs.Checked.{reach_cleared}
use Rattle.pane_read.specs.Pane.{pane_taken}
use Rattle.pane_read.specs.declared.Pane.{Pane}
use Rattle.pane_checks.specs.Checks.{texts_checked}
use Rattle.pane_checks.proofs.Cleared.{texts_cleared}
use Rattle.pane.specs.Body.{pane_measured, pane_given, pane_read}
use Rattle.alignment_fields.specs.Alignment.{alignment_taken}
use Rattle.alignment.specs.Body.{alignment_measured, alignment_given, alignment_read}
use Rattle.picture_fields.specs.Picture.{picture_taken}
use Rattle.picture.specs.Body.{picture_measured, picture_given, quads_filled, picture_read, quads_read}
use Rattle.window_read.specs.Window.{window_taken}
use Rattle.window.specs.Body as window
use Rattle.window.specs.Body.{window_measured, window_given, frames_filled, window_read, read_quads, read_frames}
use Rattle.text_box_caption.specs.Caption.{label_of}
use Rattle.text_box_checks.specs.Checks.{label_checked}
use Rattle.text_box_read.specs.TextBox.{text_box_taken, blank_text_box}
use Rattle.text_box_read.specs.declared.TextBoxPane.{TextBoxPane}
use Rattle.text_box.specs.Body.{text_box_measured, text_box_given, units_filled, lines_filled, text_box_read, units_after, lines_after}
use Rattle.text_box.proofs.Calls.{label_cleared}
use Rattle.strip_records.specs.Kinds.{length_of}
use Rattle.strip_records.specs.Whole.{Lists}
use Rattle.strip_records.specs.declared.kind.Kind.{Kind}
use Rattle.strip_records.specs.declared.kind.Kind.TheVariants.{Pan1, Pic1, Txt1, Wnd1, Ali1}
use Rattle.strip_kinds.specs.Body.{body_read, body_lists}
use Rattle.reach.specs.Agrees.{Agrees}
use Rattle.reach.specs.Seen.{body_seen}
use Rattle.reach.specs.Figures.{seeks}
use Rattle.reach.proofs.Steps.{Leads, Reads, Reading, Owns, Owned, told, so, after}
use Rattle.reach.proofs.Pane.{pane_went}
use Rattle.reach.proofs.Own.{alignment_went, picture_went}
use Rattle.reach.proofs.Window.{window_went}
use Rattle.reach.proofs.TextBoxes.{text_box_went}
use Rattle.text_box_parts.specs.Parts.{Label}
use Rattle.std.specs.Prelude.{Err, None, Ok, Some}
use Rattle.core_read.specs.declared.error.CheckedText.TheVariants.{Label as OfLabel}

-- a body at B whose fixed bytes are k, of n bytes, read to d: its fixed bytes lie below the reach, the end is not past it, the base is there, and of a kind
-- with no offsets the reach is the end
pub record Ended (body k n : ℕ) (sought : Bool) (d : Cursor) : Type 0 where
  pub fixed : body + k ≤ d.reach
  pub ended : d.pos ≤ d.reach
  pub base : body + 76 ≤ n
  pub level : sought ≡ false → d.reach ≡ d.pos

-- the run of such a read, which ends at a cursor with these two figures
pub record Ran (body k : ℕ) (sought : Bool) (end reach lo r n : ℕ) (Same : Type 0) : Type 0 where
  pub cursor : Cursor
  pub stop : cursor.pos ≡ end
  pub far : cursor.reach ≡ reach
  pub went : Leads lo r n (λ (c : Cursor). c ≡ start body → Ended body k n sought cursor) (Ok (start body)) cursor Same

-- an answer that was read: the cursor that it is of
record Answered (q : Place) (end reach : ℕ) : Type 0 where
  cursor : Cursor
  here : q ≡ Ok cursor
  stop : cursor.pos ≡ end
  far : cursor.reach ≡ reach

answered : (q : Place) (end reach : ℕ) → q ≡ Ok (record { pos = end; reach = reach }) → Answered q end reach
answered (Ok c) end reach e = record { cursor = c; here = refl; stop = cc; far = cc }
answered (Err why) end reach e = record { cursor = start 0; here = cc; stop = cc; far = cc }

-- what a kind has, from e to d, after the base from B
own_ended : (body k n : ℕ) (sought : Bool) (c e d : Cursor) → Reads n 76 e c → Owns body k sought d e → c ≡ start body → Ended body k n sought d
own_ended body k n sought c e d x y h =
    let at : c.pos ≡ body = ap (λ (z : Cursor). z.pos) h ∙ pos_start body in
    let looked : c.reach ≡ c.pos = ap (λ (z : Cursor). z.reach) h ∙ reach_start body ∙ sym at in
    let there : e.pos ≡ body + 76 = ap (λ (z : Cursor). z.pos) x.reads ∙ pos_advanced c 76 ∙ ap (λ (m : ℕ). m + 76) at in
    let level : e.reach ≡ e.pos = ap (λ (z : Cursor). z.reach) x.reads ∙ reach_level c looked 76 ∙ ap (λ (m : ℕ). m + 76) at ∙ sym there in
    let v = y.owns there in
    record { fixed = v.0; ended = v.1; base = omega (arith, x.room (lit≤ tt), at); level = λ b. y.level b level }

-- nothing beyond the base
none_owns : (body n : ℕ) (c e : Cursor) → Reads n 76 e c → c ≡ start body → Owns body 76 false e e
none_owns body n c e x h =
    let v = reach_covers c 76 (lit≤ tt) in
    let p = pos_advanced c 76 in
    rw x.reads (record { owns = λ f. (omega (arith, v, p, f), omega (arith, v, p)); level = λ b f. f })

ran_by : {body k end reach lo r n : ℕ} {sought : Bool} {X : Type 0} {q : Place} (f : Answered q end reach)
    → Leads lo r n (λ (c : Cursor). c ≡ start body → Ended body k n sought f.cursor) (Ok (start body)) f.cursor X → Ran body k sought end reach lo r n X
ran_by f x = record { cursor = f.cursor; stop = f.stop; far = f.far; went = x }

base_ran : {body end reach lo r n : ℕ} {X : Type 0} {q : Place} (f : Answered q end reach) → Reading lo r n 76 (Ok (start body)) f.cursor X → Ran body 76 false end reach lo r n X
base_ran {body} {n = n} f x =
    let d = f.cursor in
    ran_by f (told x (λ (c : Cursor). c ≡ start body → Ended body 76 n false d)
    (λ h. own_ended body 76 n false x.from d d x.how (none_owns body n x.from d x.how h) h))

own_ran : {body k end reach lo r n : ℕ} {sought : Bool} {X Y : Type 0} {q p : Place} (f : Answered q end reach) (y : Owned lo r n body k sought p f.cursor Y)
    → Reading lo r n 76 (Ok (start body)) y.from X → Ran body k sought end reach lo r n (X × Y)
own_ran {body} {k} {n = n} {sought = sought} f y x =
    let d = f.cursor in
    ran_by f (after y x (λ (c : Cursor). c ≡ start body → Ended body k n sought d) (own_ended body k n sought x.from y.from d x.how y.how))

-- what it gives
ran_so : {body k end reach lo r n : ℕ} {sought : Bool} {X Y : Type 0} → Ran body k sought end reach lo r n X → (X → Y) → Ran body k sought end reach lo r n Y
ran_so x f = record { cursor = x.cursor; stop = x.stop; far = x.far; went = so x.went f }

-- 7 of the same label, and the label of a record beside a refusal or not
label_same : (p : Place) (s s' : List ℕ) (l : Label) → label_of s' l ≡ label_of s l → label_checked p s' l ≡ label_checked p s l
unfolding label_checked
label_same p s s' None e = refl
label_same p s s' (Some span) e = ap (λ (b : List ℕ). stop_if p (not (well_formed b)) (IllFormedUtf8 span.place OfLabel)) e

label_unless : (q : Place) (s s' : List ℕ) (x : TextBoxPane) → label_of s' x.label ≡ label_of s x.label
    → label_of s' (unless_refused q blank_text_box x).label ≡ label_of s (unless_refused q blank_text_box x).label
unfolding unless_refused blank_text_box
label_unless (Ok c) s s' x e = e
label_unless (Err why) s s' x e = refl

abbrev pub Runs : ByteOrder → Kind → ℕ → Extent → Lists → Type 0
Runs order k body x l = (s s' : List ℕ) (end reach : ℕ) → (body_seen order k body x l s).read.answer ≡ Ok (record { pos = end; reach = reach }) → Agrees (body - 8) reach s s'
    → Ran body (length_of k) (seeks k) end reach (body - 8) reach (length s) (body_seen order k body x l s' ≡ body_seen order k body x l s)

-- the run ended where 7, and 19 in a section, let it through
record Stood (t q : Place) (end reach : ℕ) : Type 0 where
  answer : Answered q end reach
  stood : t ≡ Ok answer.cursor

ended : (t : Place) (b : Pane) (body : ℕ) (x : Extent) (end reach : ℕ) → (reach_checked (texts_checked t b body) x) ≡ Ok (record { pos = end; reach = reach })
    → Stood t (reach_checked (texts_checked t b body) x) end reach
ended t b body x end reach e =
    let f = answered (reach_checked (texts_checked t b body) x) end reach e in
    record { answer = f; stood = texts_cleared t b body f.cursor (reach_cleared (texts_checked t b body) x f.cursor f.here) }

module _ (order : ByteOrder) (body : ℕ) (z : Extent) (l : Lists) where
  pan : Runs order Pan1 body z l
  unfolding body_read body_lists pane_read pane_given pane_measured
  pan s s' end reach e a =
      let t = pane_taken order s (Ok (start body)) in
      let f = ended t.then t.value body z end reach e in
      let x = pane_went (body - 8) reach s s' a order (Ok (start body)) f.answer.cursor f.stood in
      ran_so (base_ran f.answer x) (λ u. rw u)

  ali : Runs order Ali1 body z l
  unfolding body_read body_lists alignment_read alignment_given alignment_measured
  ali s s' end reach e a =
      let b = pane_taken order s (Ok (start body)) in
      let t = alignment_taken order s b.then in
      let f = ended t.then b.value body z end reach e in
      let y = alignment_went (body - 8) reach s s' a order body b.then f.answer.cursor f.stood in
      let x = pane_went (body - 8) reach s s' a order (Ok (start body)) y.from y.here in
      ran_so (own_ran f.answer y x) (λ u. rw (u.0, u.1))

  pic : Runs order Pic1 body z l
  unfolding body_read body_lists picture_read picture_given picture_measured quads_read quads_filled
  pic s s' end reach e a =
      let b = pane_taken order s (Ok (start body)) in
      let t = picture_taken order s b.then in
      let f = ended t.then b.value body z end reach e in
      let y = picture_went (body - 8) reach s s' a order body b.then f.answer.cursor f.stood in
      let x = pane_went (body - 8) reach s s' a order (Ok (start body)) y.from y.here in
      ran_so (own_ran f.answer y x) (λ u. rw (u.0, u.1.0, u.1.1))

  wnd : Runs order Wnd1 body z l
  unfolding body_read body_lists window_read window_given window_measured read_quads window.quads_filled read_frames frames_filled
  wnd s s' end reach e a =
      let b = pane_taken order s (Ok (start body)) in
      let t = window_taken order s b.then body in
      let f = ended t.then b.value body z end reach e in
      let y = window_went (body - 8) reach s s' a order body (omega arith) b.then f.answer.cursor f.stood in
      let x = pane_went (body - 8) reach s s' a order (Ok (start body)) y.from y.here in
      ran_so (own_ran f.answer y x) (λ u. rw (u.0, u.1.0, u.1.1, u.1.2))

  txt : Runs order Txt1 body z l
  unfolding body_read body_lists text_box_read text_box_given text_box_measured units_after units_filled lines_after lines_filled
  txt s s' end reach e a =
      let b = pane_taken order s (Ok (start body)) in
      let t = text_box_taken order s b.then body in
      let q = texts_checked t.then b.value body in
      let name : Label = t.value.text_box.label in
      let f = answered (reach_checked (label_checked q s name) z) end reach e in
      let h = reach_cleared (label_checked q s name) z f.cursor f.here in
      let g = texts_cleared t.then b.value body f.cursor (label_cleared q s name f.cursor h) in
      let y = text_box_went (body - 8) reach s s' a order body (omega arith) b.then f.cursor g in
      let x = pane_went (body - 8) reach s s' a order (Ok (start body)) y.from y.here in
      ran_so (own_ran f y x) (λ u.
      rw (
        u.0,
        u.1.0,
        label_same q s s' name u.1.1,
        u.1.2,
        u.1.3,
        label_unless (reach_checked (label_checked q s name) z) s s' t.value.text_box u.1.1,
      ))

  -- every kind
  pub body_ran : (k : Kind) → Runs order k body z l
  body_ran Pan1 = pan
  body_ran Pic1 = pic
  body_ran Txt1 = txt
  body_ran Wnd1 = wnd
  body_ran Ali1 = ali
