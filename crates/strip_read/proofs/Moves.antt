-- A section read moves on by 8 bytes or more, within the strip, and a pane that is read keeps to its section.
use mathlib.Core.Path.{◌≡◌, refl}
use mathlib.Core.Bool.{Bool, true, false, cond, ◌||◌}
use Prim.Native.Nat.{ℕ, ◌+◌, ◌-◌, ◌%◌, ◌≤◌}
use native.Mathlib.Omega.{arith}
use mathlib.Core.List.{List}
use lib.Dec.{ltb, eqb}
use lib.ListN.{length}
use borrow.Author.Tests.{ltb-false}
use Rattle.core_read.specs.Taken.{start, number_taken, Place}
use Rattle.core_read.specs.declared.cursor.ByteOrder.{ByteOrder}
use Rattle.core_read.specs.declared.cursor.ByteOrder.TheVariants.{Little}
use Rattle.core_read.specs.declared.cursor.Cursor.{Cursor}
use Rattle.core_read.proofs.Runs.{cleared}
use Rattle.core_checks.specs.Checks.{section_start, reach_checked}
use Rattle.core_checks.proofs.Checked.{or_false, section_started, reach_kept}
use Rattle.pane.specs.Body.{pane_measured, pane_given, pane_read}
use Rattle.picture.specs.Body.{picture_measured, picture_given, picture_read}
use Rattle.text_box.specs.Body.{text_box_measured, text_box_given, text_box_read}
use Rattle.window.specs.Body.{window_measured, window_given, window_read}
use Rattle.alignment.specs.Body.{alignment_measured, alignment_given, alignment_read}
use Rattle.strip_records.specs.Kinds.{kind_of, KindFound}
use Rattle.strip_records.specs.Whole.{Lists}
use Rattle.strip_records.specs.declared.kind.Kind.{Kind}
use Rattle.strip_records.specs.declared.kind.Kind.TheVariants.{Pan1, Pic1, Txt1, Wnd1, Ali1}
use Rattle.strip_records.specs.declared.record.Record.{Record}
use Rattle.strip_kinds.specs.Body.{body_read}
use Rattle.strip_header.specs.Header.{read_start, size_bad, header_taken, SectionAnswer}
use Rattle.strip_header.specs.declared.Section.TheVariants as Sections
use Rattle.strip_read.specs.Read.{refused_with, ended_with, passed_with, finished, read_body, by_kind, or_refused, read_at, read_section, measured}
use Rattle.strip_read.specs.declared.read.SectionRead.{SectionRead}
use Rattle.strip_read.proofs.Cleared.{size_ok, read_started}
use Rattle.std.specs.Prelude.{Err, None, Ok, Some}

-- ---- 19

parsed_kept : (q : Place) (end : ℕ) (z : Place) → reach_checked q (Some end) ≡ z → (e r : ℕ) → z ≡ Ok (record { pos = e; reach = r }) → r ≤ end
parsed_kept q end (Ok c) h e r k = let w : c.reach ≡ r = cc in omega (arith, reach_kept q end c h, w)
parsed_kept q end (Err why) h e r k = let z : ◌≡◌ {A = ℕ} 0 1 = cc in absurd (omega arith)

-- a body that is read in a section looks no farther than the section's end
pub body_kept : (order : ByteOrder) (k : Kind) (s : List ℕ) (p : Place) (body end e r : ℕ) → (body_read order k s p body (Some end)).answer ≡ Ok (record { pos = e; reach = r }) → r ≤ end
unfolding body_read pane_read pane_given pane_measured picture_read picture_given picture_measured text_box_read text_box_given text_box_measured window_read window_given window_measured alignment_read alignment_given alignment_measured
body_kept order Pan1 s p body end e r h = parsed_kept _ end _ refl e r h
body_kept order Pic1 s p body end e r h = parsed_kept _ end _ refl e r h
body_kept order Txt1 s p body end e r h = parsed_kept _ end _ refl e r h
body_kept order Wnd1 s p body end e r h = parsed_kept _ end _ refl e r h
body_kept order Ali1 s p body end e r h = parsed_kept _ end _ refl e r h

-- ---- where a read leads

-- of a section at p in n bytes: the next begins 8 bytes on or more, within them, and a pane looked no farther than there
unfoldable pub Onward : ℕ → ℕ → SectionAnswer → Type 0
Onward n p (Ok Sections.End) = Unit {0}
Onward n p (Ok (Sections.Passed next)) = (p + 8 ≤ next) × (next ≤ n)
Onward n p (Ok (Sections.Pane end next reach)) = (p + 8 ≤ next) × (next ≤ n) × (reach ≤ next)
Onward n p (Err why) = Unit {0}

module _ (n p next : ℕ) (m : (p + 8 ≤ next) × (next ≤ n)) where
  finished_on : (a : Place) (r : Record) → ((e f : ℕ) → a ≡ Ok (record { pos = e; reach = f }) → f ≤ next) → Onward n p (finished a next r).answer
  unfolding finished refused_with Onward
  finished_on (Ok c) r k = (m.0, m.1, k c.pos c.reach refl)
  finished_on (Err why) r k = tt

  kind_on : (order : ByteOrder) (k : KindFound) (s : List ℕ) (c : Place) (body : ℕ) → Onward n p (by_kind order k s c body next).answer
  unfolding by_kind read_body passed_with Onward
  kind_on order (Some kind) s c body =
      let b = body_read order kind s c body (Some next) in
      finished_on b.answer b.«record» (λ e f h. body_kept order kind s c body next e f h)
  kind_on order None s c body = m

-- where the checks let through, r is what is answered
or_on : (n p : ℕ) (q : Place) (r : SectionRead) → ((c : Cursor) → q ≡ Ok c → Onward n p r.answer) → Onward n p (or_refused q r).answer
unfolding or_refused refused_with Onward
or_on n p (Ok c) r h = h c refl
or_on n p (Err why) r h = tt

-- 8
size_on : (n p z : ℕ) → size_bad n p z ≡ false → p ≤ n → (p + 8 ≤ p + z) × (p + z ≤ n)
unfolding size_bad
size_on n p z e h =
    let k : 8 ≤ z = ltb-false z 8 (or_false (ltb z 8) (ltb 0 (z % 4)) (or_false (ltb z 8 || ltb 0 (z % 4)) (ltb (n - p) z) e).0).0 in
    (omega (arith, k), size_ok n p z e h)

header_on : (order : ByteOrder) (s : List ℕ) (p : ℕ) (c : Cursor) → (header_taken order s p).then ≡ Ok c → p ≤ length s
    → (p + 8 ≤ p + (header_taken order s p).value.size) × (p + (header_taken order s p).value.size ≤ length s)
unfolding header_taken
header_on order s p c g h =
    let z = number_taken order 4 s (number_taken Little 4 s (Ok (start p))).then in
    size_on (length s) p z.value (cleared z.then (size_bad (length s) p z.value) _ c g).1 h

at_on : (order : ByteOrder) (s : List ℕ) (p : ℕ) → p ≤ length s → Onward (length s) p (read_at order s p).answer
unfolding read_at
at_on order s p h =
    let t = header_taken order s p in
    or_on (length s) p t.then _ (λ c g. kind_on (length s) p (p + t.value.size) (header_on order s p c g h) order (kind_of t.value.letters) s t.then (p + 8))

end_on : (n p : ℕ) (b : Bool) (r : SectionRead) → Onward n p r.answer → Onward n p (cond b ended_with r).answer
unfolding ended_with Onward
end_on n p true r h = tt
end_on n p false r h = h

-- A SECTION READ MOVES ON, AND A PANE KEEPS TO ITS SECTION
pub section_on : (order : ByteOrder) (s : List ℕ) (p : ℕ) (l : Lists) → Onward (length s) p (read_section order s p l).answer
unfolding read_section
section_on order s p l =
    or_on (length s) p (read_start (length s) p (length l.quads) (length l.units) (length l.lines) (length l.frames)) _
    (λ c g. end_on (length s) p (eqb p (length s)) (read_at order s p) (at_on order s p (read_started (length s) p l c g).0.within))

pub measured_on : (order : ByteOrder) (s : List ℕ) (p : ℕ) → Onward (length s) p (measured order s p).answer
unfolding measured
measured_on order s p =
    or_on (length s) p (section_start (length s) p) _
    (λ c g. end_on (length s) p (eqb p (length s)) (read_at order s p) (at_on order s p (section_started (length s) p c g).1.within))
