-- WHAT THE REACH OF A BODY CALL MEANS: what `Needed` says of a run, of the calls that make the checks 1 to 3 before it.
use mathlib.Core.Path.{◌≡◌, refl, sym, ap, ◌∙◌}
use Prim.Native.Nat.{ℕ, ◌-◌, ◌≤◌, ◌<◌}
use native.Mathlib.Omega.{arith}
use mathlib.Core.List.{List, ◌++◌}
use lib.ListN.{length, take}
use Rattle.core_read.specs.Taken.{start, Place}
use Rattle.core_read.specs.declared.error.Refusal.{Refusal}
use Rattle.core_read.specs.declared.cursor.ByteOrder.{ByteOrder}
use Rattle.core_read.specs.declared.cursor.Cursor.{Cursor}
use Rattle.core_read.specs.declared.error.NumberList.TheVariants.{Quads, Units, Lines, Frames}
use Rattle.core_checks.specs.Checks.{body_start}
use Rattle.core_checks.proofs.Checked.{BodyOk, body_started, body_passes, list_cleared, list_passes}
use Rattle.pane.specs.Body.{pane_given, pane_read, pane_parsed}
use Rattle.pane.proofs.Calls as pane
use Rattle.picture.specs.Body.{picture_given, picture_read, picture_start, picture_parsed, quads_parsed}
use Rattle.picture.proofs.Calls as picture
use Rattle.text_box.specs.Body.{text_box_given, text_box_start, text_box_read}
use Rattle.text_box.proofs.Calls as text-box
use Rattle.window.specs.Body.{read_start, window_given, window_read, window_parsed, parsed_quads, parsed_frames}
use Rattle.window.proofs.Calls as window
use Rattle.alignment.specs.Body.{alignment_given, alignment_read, alignment_parsed}
use Rattle.alignment.proofs.Calls as alignment
use Rattle.strip_records.specs.Whole.{Lists}
use Rattle.strip_records.specs.declared.kind.Kind.{Kind}
use Rattle.strip_records.specs.declared.kind.Kind.TheVariants.{Pan1, Pic1, Txt1, Wnd1, Ali1}
use Rattle.strip_kinds.specs.Body.{body_read, body_lists, body_parsed, lists_parsed}
use Rattle.reach.specs.Agrees.{Agrees}
use Rattle.reach.specs.Seen.{BodySeen, body_seen, call_seen}
use Rattle.reach.specs.Figures.{Bounds, BodyRefused}
use Rattle.reach.proofs.Needed.{agrees_longer, cut_of, needed, bounds}
use Rattle.std.specs.Prelude.{Err, None, Ok}

-- ---- where the call of a kind begins: 1, 2, and 3 of the lists that the kind takes

start_of : Kind → ℕ → ℕ → Lists → Place
start_of Pan1 n body l = body_start n body
start_of Pic1 n body l = picture_start n body (length l.quads)
start_of Txt1 n body l = text_box_start n (length l.units) (length l.lines) body
start_of Wnd1 n body l = read_start n body l.quads l.frames
start_of Ali1 n body l = body_start n body

parsed_is : (order : ByteOrder) (k : Kind) (s : List ℕ) (body : ℕ) (l : Lists) → body_parsed order k s body l ≡ body_read order k s (start_of k (length s) body l) body None
unfolding body_parsed body_read start_of pane_parsed picture_parsed window_parsed alignment_parsed
parsed_is order Pan1 s body l = refl
parsed_is order Pic1 s body l = refl
parsed_is order Txt1 s body l = refl
parsed_is order Wnd1 s body l = refl
parsed_is order Ali1 s body l = refl

lists_is : (order : ByteOrder) (k : Kind) (s : List ℕ) (body : ℕ) (l : Lists) → lists_parsed order k s body l ≡ body_lists order k s (start_of k (length s) body l) body None l
unfolding lists_parsed body_lists start_of quads_parsed parsed_quads parsed_frames
lists_is order Pan1 s body l = refl
lists_is order Pic1 s body l = refl
lists_is order Txt1 s body l = refl
lists_is order Wnd1 s body l = refl
lists_is order Ali1 s body l = refl

-- a refused run answers so
body_stays : (order : ByteOrder) (k : Kind) (s : List ℕ) (why : Refusal) (body : ℕ) → (body_read order k s (Err why) body None).answer ≡ Err why
unfolding body_read pane_read pane_given picture_read picture_given text_box_read text_box_given window_read window_given alignment_read alignment_given
body_stays order Pan1 s why body = rw (pane.measured_stays order s why body None)
body_stays order Pic1 s why body = rw (picture.measured_stays order s why body None)
body_stays order Txt1 s why body = rw (text-box.measured_stays order s why body None)
body_stays order Wnd1 s why body = rw (window.measured_stays order s why body None)
body_stays order Ali1 s why body = rw (alignment.measured_stays order s why body None)

-- what the checks 1 to 3 tell, and that they let any other buffer of an allowed length through that holds B
record Started (k : Kind) (n body : ℕ) (l : Lists) : Type 0 where
  ok : BodyOk n body
  again : (m : ℕ) → BodyOk m body → start_of k m body l ≡ Ok (start body)

started : (k : Kind) (n body : ℕ) (l : Lists) (c : Cursor) → start_of k n body l ≡ Ok c → Started k n body l
unfolding start_of picture_start text_box_start read_start
started Pan1 n body l c e = record { ok = (body_started n body c e).1; again = λ m h. body_passes m body h }
started Ali1 n body l c e = record { ok = (body_started n body c e).1; again = λ m h. body_passes m body h }
started Pic1 n body l c e =
    let (a, x) = list_cleared _ Quads 2040 (length l.quads) c e in
    record { ok = (body_started n body c a).1; again = λ m h. rw (body_passes m body h, list_passes (start body) Quads 2040 _ x) }
started Txt1 n body l c e =
    let (a, x) = list_cleared _ Lines 510 (length l.lines) c e in
    let (b, y) = list_cleared _ Units 32767 (length l.units) c a in
    record { ok = (body_started n body c b).1; again = λ m h. rw (body_passes m body h, list_passes (start body) Units 32767 _ y, list_passes (start body) Lines 510 _ x) }
started Wnd1 n body l c e =
    let (a, x) = list_cleared _ Frames 510 (length l.frames) c e in
    let (b, y) = list_cleared _ Quads 2040 (length l.quads) c a in
    record { ok = (body_started n body c b).1; again = λ m h. rw (body_passes m body h, list_passes (start body) Quads 2040 _ y, list_passes (start body) Frames 510 _ x) }

module _ (order : ByteOrder) (k : Kind) (body : ℕ) (l : Lists) where
  abbrev Accepted : List ℕ → ℕ → ℕ → Type 0
  Accepted s end reach = (call_seen order k body l s).read.answer ≡ Ok (record { pos = end; reach = reach })

  started_by : (s : List ℕ) (end reach : ℕ) (q : Place) → start_of k (length s) body l ≡ q → (body_read order k s q body None).answer ≡ Ok (record { pos = end; reach = reach }) → Started k (length s) body l
  started_by s end reach (Ok c) g e = started k (length s) body l c g
  started_by s end reach (Err why) g e = let z : ◌≡◌ {A = ℕ} 0 1 = cc (body_stays order k s why body) in absurd (omega arith)

  begun : (s : List ℕ) (end reach : ℕ) → Accepted s end reach → Started k (length s) body l
  begun s end reach e = started_by s end reach (start_of k (length s) body l) refl (ap (λ r. r.answer) (sym (parsed_is order k s body l)) ∙ e)

  -- after the checks a call is the run
  call_is : (s : List ℕ) → start_of k (length s) body l ≡ Ok (start body) → call_seen order k body l s ≡ body_seen order k body None l s
  call_is s h = rw (parsed_is order k s body l, lists_is order k s body l, h)

  -- THE PART THAT A CALL NEEDED: another buffer, no shorter and no longer than check 1 lets through, that has the bytes of [B − 8, reach) there gives the
  -- same answer, record, lists and label
  pub call_needed : (s s' : List ℕ) (end reach : ℕ) → Accepted s end reach → Agrees (body - 8) reach s s' → length s' ≤ 16777216
      → call_seen order k body l s' ≡ call_seen order k body l s
  call_needed s s' end reach e a small =
      let b = begun s end reach e in
      let x = call_is s (b.again (length s) b.ok) in
      let fit : body ≤ length s' = omega (arith, b.ok.within, a.long) in
      let y = call_is s' (b.again (length s') (record { most = small; least = b.ok.least; within = fit })) in
      y ∙ needed order k body None l s s' end reach (ap (λ (v : BodySeen). v.read.answer) (sym x) ∙ e) a ∙ sym x

  pub call_bounds : (s : List ℕ) (end reach : ℕ) → Accepted s end reach → Bounds k body (length s) end reach
  call_bounds s end reach e =
      let b = begun s end reach e in
      let x = call_is s (b.again (length s) b.ok) in
      bounds order k body None l s end reach (ap (λ (v : BodySeen). v.read.answer) (sym x) ∙ e)

  -- AND NO LESS: of a buffer that is cut below its reach the call is refused
  pub call_cut : (s : List ℕ) (end reach n : ℕ) → Accepted s end reach → n < reach → BodyRefused (call_seen order k body l (take n s)).read.answer
  call_cut s end reach n e m =
      cut_of (body - 8) (call_seen order k body l) s n end reach e m (λ end' reach' g. (call_bounds (take n s) end' reach' g).within)
      (λ end' reach' g a. call_needed (take n s) s end' reach' g a (begun s end reach e).ok.most)

  -- bytes after the buffer change nothing
  pub call_extends : (s more : List ℕ) (end reach : ℕ) → Accepted s end reach → length (s ++ more) ≤ 16777216 → call_seen order k body l (s ++ more) ≡ call_seen order k body l s
  call_extends s more end reach e small =
      call_needed s (s ++ more) end reach e (agrees_longer (body - 8) reach s more (call_bounds s end reach e).within) small
