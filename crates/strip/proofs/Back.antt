-- A section that a write lets through is read back, anywhere in a buffer.
use mathlib.Core.Path.{◌≡◌, refl, ap, ◌∙◌}
use Prim.Native.Nat.{ℕ, ◌+◌, ◌-◌, ◌%◌, ◌^◌, ◌≤◌, ◌<◌}
use native.Mathlib.Nat.{add-zero}
use native.Mathlib.Omega.{arith}
use mathlib.Core.Bool.{false}
use mathlib.Core.List.{List}
use lib.ListN.{length, length-append, length-replicate}
use lib.Dec.{lit≤}
use borrow.Author.Tests.{le-ltb, eq-eqb, ne_eqb}
use Rattle.core_read.specs.Bytes.{bytes_of, padding}
use Rattle.core_read.specs.Taken.{start, advanced, stop_if}
use Rattle.core_checks.specs.Checks.{unless_refused}
use Rattle.core_read.specs.declared.cursor.ByteOrder.{ByteOrder}
use Rattle.core_read.specs.declared.cursor.ByteOrder.TheVariants.{Little}
use Rattle.core_read.proofs.Numbers.{length_bytes}
use Rattle.core_read.proofs.Cursors.{pos_start, pos_advanced, advanced_zero, reach_start, reach_level}
use Rattle.core_checks.proofs.Checked.{SectionOk, section_passes, list_passes, reach_passes}
use Rattle.core_read.proofs.Back.{Holds, holds_left, holds_fits, cut, number_at_lem}
use Rattle.pane.proofs.Cleared.{Good, sound}
use Rattle.pane.proofs.Back.{length_pane}
use Rattle.picture.proofs.Back as picture-laws
use Rattle.text_box.specs.Body as text-box
use Rattle.text_box.proofs.Whole as text-box-laws
use Rattle.text_box.proofs.Shift as text_box_shift
use Rattle.window.proofs.Lengths as window-lengths
use Rattle.window.proofs.Same as window_same
use Rattle.alignment.proofs.Back as alignment-laws
use Rattle.strip_records.specs.Kinds.{letter_bytes, letters_of, kind_of}
use Rattle.strip_records.specs.Whole.{Lists, Full, Whole}
use Rattle.strip.specs.Same.{SameOwn, read_whole}
use Rattle.strip_records.specs.Typed.{Typed}
use Rattle.strip_read.specs.Read.{finished, read_body, by_kind, lists_by_kind, or_refused, ended_with, read_at, lists_at, read_section, lists_after}
use Rattle.strip_header.specs.Header.{read_start, size_bad, header_taken, SectionAnswer}
use Rattle.strip_write.specs.Write.{body_length, encode_body, section_size, size_of, section, section_end}
use Rattle.strip_records.specs.declared.kind.Kind.{Kind}
use Rattle.strip_records.specs.declared.kind.Kind.TheVariants.{Pan1, Pic1, Txt1, Wnd1, Ali1}
use Rattle.strip_records.specs.declared.record.Record.{Record}
use Rattle.strip_header.specs.declared.Header.{Header}
use Rattle.strip_read.specs.declared.read.SectionRead.{SectionRead}
use Rattle.core_read.specs.Taken.{Taken}
use Rattle.core_read.specs.declared.error.NumberList.TheVariants.{Quads, Units, Lines, Frames}
use Rattle.strip_header.specs.declared.Section.TheVariants as Sections
use Rattle.strip_write.proofs.Steps.{letters_bytes, size_parts}
use Rattle.strip.proofs.BackKinds.{GoodWhole, BodyBack, body_end, body_reach, read_record, body_back}
use Rattle.std.specs.Prelude.{Ok, Some}

-- ---- lengths

pub length_letters : (k : Kind) → length (letter_bytes k) ≡ 4
unfolding letter_bytes
length_letters Pan1 = refl
length_letters Pic1 = refl
length_letters Txt1 = refl
length_letters Wnd1 = refl
length_letters Ali1 = refl

length_body : (k : Kind) (order : ByteOrder) (body : ℕ) (w : Whole) → Typed w → Good w.pane.base → length (encode_body k order body w) ≡ body_length k body w
unfolding encode_body text-box.encode_body
length_body Pan1 order body w t g = length_pane order w.pane.base (sound _ g)
length_body Pic1 order body w t g = picture-laws.length_body order w.pane.base w.pane.picture w.lists.quads (sound _ g) t.pane.picture.colors.four
length_body Txt1 order body w t g =
    rw (length-append, length_pane order w.pane.base (sound _ g), text-box-laws.length_text_box order body w.pane.text_box w.lists.units w.lists.lines w.label)
length_body Wnd1 order body w t g =
    window-lengths.length_body order body w.pane.base w.pane.window w.lists.quads w.lists.frames (sound _ g) t.pane.window.colors.four
length_body Ali1 order body w t g = alignment-laws.length_body order w.pane.base w.pane.alignment (sound _ g)

pub length_section : (order : ByteOrder) (p : ℕ) (w : Whole) → GoodWhole w → length (section order p w) ≡ size_of p w
unfolding section
length_section order p w g =
    rw (
      length-append,
      length-append,
      length-append,
      length_letters w.pane.kind,
      length_bytes,
      length_body w.pane.kind order (p + 8) w g.typed g.good,
      length-replicate,
    )
    (size_parts (body_length w.pane.kind (p + 8) w))

pub size_whole : (n : ℕ) → section_size n % 4 ≡ 0
unfolding section_size padding
size_whole n = omega arith

size_some : (n : ℕ) → 8 ≤ section_size n
unfolding section_size
size_some n = omega arith

-- a section's bytes and size do not depend on its place, which is a multiple of 4
body_shift : (k : Kind) (order : ByteOrder) (p body : ℕ) (w : Whole) → p % 4 ≡ 0 → 8 ≤ body → encode_body k order (p + body) w ≡ encode_body k order body w
unfolding encode_body text-box.encode_body
body_shift Pan1 order p body w h l = refl
body_shift Pic1 order p body w h l = refl
body_shift Txt1 order p body w h l = rw (text_box_shift.text_box_shift order p body w.pane.text_box w.lists.units w.lists.lines w.label h l)
body_shift Wnd1 order p body w h l = window_same.body_shift order p body w.pane.base w.pane.window w.lists.quads w.lists.frames h
body_shift Ali1 order p body w h l = refl

length_shift : (k : Kind) (p body : ℕ) (w : Whole) → p % 4 ≡ 0 → 8 ≤ body → body_length k (p + body) w ≡ body_length k body w
length_shift Pan1 p body w h l = refl
length_shift Pic1 p body w h l = refl
length_shift Txt1 p body w h l = ap (λ (x : ℕ). 76 + x) (text_box_shift.length_shift p body w.pane.text_box w.lists.units w.lists.lines w.label h l)
length_shift Wnd1 p body w h l = window_same.body_length_shift p body w.lists.quads w.lists.frames h
length_shift Ali1 p body w h l = refl

pub size_shift : (p : ℕ) (w : Whole) → p % 4 ≡ 0 → size_of p w ≡ size_of 0 w
size_shift p w h = ap section_size (length_shift w.pane.kind p 8 w h (lit≤ tt))

pub section_shift : (order : ByteOrder) (p : ℕ) (w : Whole) → p % 4 ≡ 0 → section order p w ≡ section order 0 w
unfolding section
section_shift order p w h = rw (length_shift w.pane.kind p 8 w h (lit≤ tt), body_shift w.pane.kind order p 8 w h (lit≤ tt))

-- ---- the parts of a section

letters_fit : (k : Kind) → letters_of k < 256 ^ 4
letters_fit Pan1 = lit≤ tt
letters_fit Pic1 = lit≤ tt
letters_fit Txt1 = lit≤ tt
letters_fit Wnd1 = lit≤ tt
letters_fit Ali1 = lit≤ tt

letters_kind : (k : Kind) → kind_of (letters_of k) ≡ Some k
unfolding kind_of
letters_kind Pan1 = refl
letters_kind Pic1 = refl
letters_kind Txt1 = refl
letters_kind Wnd1 = refl
letters_kind Ali1 = refl

size_good : (n p z : ℕ) → 8 ≤ z → z % 4 ≡ 0 → p + z ≤ n → size_bad n p z ≡ false
unfolding size_bad
size_good n p z h k l = let m : z ≤ n - p = omega arith in rw (le-ltb z 8 h, k, le-ltb (n - p) z m)

-- the header, given its two numbers
header_back : {s : List ℕ} (order : ByteOrder) (p : ℕ) (k : Kind) (z : ℕ) → 8 ≤ z → z % 4 ≡ 0 → p + z ≤ length s → z < 256 ^ 4
    → Holds s ((start p).pos + 0) (letter_bytes k) → Holds s ((start p).pos + 4) (bytes_of order 4 z)
    → ◌≡◌ {A = Taken Header} (header_taken order s p) (record { value = record { letters = letters_of k; size = z }; then = Ok (advanced (start p) 8) })
unfolding header_taken stop_if
header_back {s} order p k z a b d e h₁ h₂ =
    let h : Holds s ((start p).pos + 0) (bytes_of Little 4 (letters_of k)) = rw (letters_bytes k) h₁ in
    let n = rw (advanced_zero (start p)) at (number_at_lem (start p) Little 0 4 (letters_of k) (letters_fit k) h) in
    rw (n, number_at_lem (start p) order 4 4 z e h₂, size_good (length s) p z a b d)

-- the record that is read of a section that was written at p
abbrev pub read_as : ℕ → Whole → Record
read_as p w = read_record w.pane.kind (advanced (start p) 8) (p + 8) w

-- the answer: the end and the reach of its body, and the end of its padding
abbrev pub answer_of : ℕ → Whole → SectionAnswer
answer_of p w = Ok (Sections.Pane (body_end w.pane.kind (p + 8) w) (section_end p w) (body_reach w.pane.kind (p + 8) w))

-- it looks at no byte past its own
pub reach_inside : (p : ℕ) (w : Whole) → body_reach w.pane.kind (p + 8) w ≤ section_end p w
unfolding section_size
reach_inside p w = omega arith

-- what is read of a section that was written, and the lists after it
pub record SectionBack (order : ByteOrder) (s : List ℕ) (p : ℕ) (l : Lists) (w : Whole) : Type 0 where
  pub read : ◌≡◌ {A = SectionRead} (read_section order s p l) (record { answer = answer_of p w; «record» = read_as p w })
  pub own : SameOwn w.pane.kind (read_whole s (read_as p w) (lists_after order s p l)) w

-- its parts
record Parts (order : ByteOrder) (s : List ℕ) (p : ℕ) (w : Whole) : Type 0 where
  header : ◌≡◌ {A = Taken Header} (header_taken order s p) (record { value = record { letters = letters_of w.pane.kind; size = size_of p w }; then = Ok (advanced (start p) 8) })
  body : BodyBack order s (advanced (start p) 8) (p + 8) (Some (section_end p w)) w.pane.kind w

parts : {s : List ℕ} (order : ByteOrder) (p : ℕ) (w : Whole) → GoodWhole w → length s ≤ 16777216 → p % 4 ≡ 0 → Holds s p (section order p w) → Parts order s p w
unfolding section
parts {s} order p w g small whole h =
    let k = w.pane.kind in
    let n = body_length k (p + 8) w in
    let z = section_size n in
    let fits = holds_fits (section order p w) h in
    let l = length_section order p w g in
    let h₀ : Holds s ((start p).pos + 0) (section order p w) = rw (add-zero (start p).pos, pos_start) h in
    let (h₁, t₁) = cut (start p) 0 4 (letter_bytes k) _ (length_letters k) h₀ in
    let (h₂, t₂) = cut (start p) 4 4 (bytes_of order 4 z) _ (length_bytes order 4 z) t₁ in
    let h₃ : Holds s (advanced (start p) 8).pos (encode_body k order (p + 8) w) = rw pos_advanced (holds_left (encode_body k order (p + 8) w) _ t₂) in
    let f : p + z ≤ length s = omega (arith, fits, l) in
    let here : (advanced (start p) 8).pos ≡ p + 8 = pos_advanced (start p) 8 ∙ ap (λ (x : ℕ). x + 8) (pos_start p) in
    let level : (advanced (start p) 8).reach ≡ (advanced (start p) 8).pos =
    reach_level (start p) (omega (arith, reach_start p, pos_start p)) 8 ∙ omega (arith, pos_advanced (start p) 8) in
    record {
      header = header_back order p k z (size_some n) (size_whole n) f (omega (arith, f, small)) h₁ h₂;
      body = body_back order (advanced (start p) 8) (p + 8) (Some (section_end p w)) k w (λ d e. reach_passes d (section_end p w) (omega (arith, e, reach_inside p w))) g.typed g.good g.own (omega arith) (omega arith) here level h₃;
    }

pub start_good : (n p : ℕ) (l : Lists) → SectionOk n p → Full l
    → read_start n p (length l.quads) (length l.units) (length l.lines) (length l.frames) ≡ Ok (start p)
unfolding read_start
start_good n p l h f =
    rw (
      section_passes n p h,
      list_passes (start p) Quads 2040 _ f.quads,
      list_passes (start p) Units 32767 _ f.units,
      list_passes (start p) Lines 510 _ f.lines,
      list_passes (start p) Frames 510 _ f.frames,
    )

-- THE SECTION
pub section_back : {s : List ℕ} (order : ByteOrder) (p : ℕ) (w : Whole) → GoodWhole w → length s ≤ 16777216 → p % 4 ≡ 0 → Holds s p (section order p w)
    → (l : Lists) → Full l → SectionBack order s p l w
unfolding read_section lists_after read_at lists_at or_refused unless_refused by_kind lists_by_kind read_body finished
section_back {s} order p w g small whole h l full =
    let fits = holds_fits (section order p w) h in
    let n = length_section order p w g in
    let z = size_some (body_length w.pane.kind (p + 8) w) in
    let q = parts order p w g small whole h in
    let a = start_good (length s) p l (record { most = small; within = omega (arith, fits); whole = whole }) full in
    let b = ne_eqb p (length s) (λ e. omega (arith, fits, n, z, e)) in
    record {
      read = rw (a, b, q.header, letters_kind w.pane.kind, q.body.read);
      own = rw (a, b, q.header, letters_kind w.pane.kind) (q.body.own l);
    }

pub section_end_lem : (order : ByteOrder) (s : List ℕ) → length s ≤ 16777216 → length s % 4 ≡ 0 → (l : Lists) → Full l → read_section order s (length s) l ≡ ended_with
unfolding read_section or_refused
section_end_lem order s small whole l full =
    rw (
      start_good (length s) (length s) l (record { most = small; within = omega arith; whole = whole }) full,
      eq-eqb (length s) (length s) refl,
    )
