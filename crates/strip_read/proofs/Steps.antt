-- The steps of the section read, as the code takes them.
use mathlib.Core.Path.{◌≡◌, refl, sym, ap, ◌∙◌}
use Prim.Native.Nat.{ℕ, ◌+◌, ◌≤◌}
use mathlib.Core.List.{List}
use lib.ListN.{length}
use Rattle.core_read.specs.Taken.{start, number_taken, Place}
use Rattle.core_checks.specs.Checks.{section_start, unless_refused}
use native.Mathlib.Omega.{arith}
use Rattle.core_checks.proofs.Checked.{list_enough, section_started}
use Rattle.core_read.specs.declared.error.Refusal.{Refusal}
use Rattle.core_read.specs.declared.cursor.ByteOrder.{ByteOrder}
use Rattle.core_read.specs.declared.cursor.ByteOrder.TheVariants.{Little}
use Rattle.core_read.specs.declared.cursor.Cursor.{Cursor}
use Rattle.core_read.specs.declared.error.NumberList.TheVariants.{Quads, Units, Lines, Frames}
use Rattle.core_read.specs.Taken.{Taken}
use Rattle.core_read.specs.declared.reader.Reader.{Reader}
use Rattle.core_read.specs.Steps.{Took}
use Rattle.core_read.proofs.Runs.{cleared}
use Rattle.strip_records.specs.Kinds.{kind_of, KindFound}
use Rattle.strip_records.specs.Whole.{Lists, no_lists, Full}
use Rattle.strip_kinds.specs.Body.{body_read, body_lists}
use Rattle.strip_read.specs.Read.{finished, read_body, by_kind, lists_by_kind, or_refused, ended_with, read_at, lists_at, read_section, measured, lists_after, body_in, body_at, answered_with, with_blank}
use Rattle.strip_header.specs.Header.{read_start, size_bad, header_taken, section_by_number, SectionAnswer}
use Rattle.strip_header.specs.declared.Header.{Header}
use Rattle.strip_kinds.specs.declared.body.BodyRead.{BodyRead}
use Rattle.strip_read.specs.declared.read.SectionRead.{SectionRead}
use Rattle.strip_read.specs.declared.read.Body.{Body}
use Rattle.strip_read.proofs.Cleared.{size_ok, read_started}
use Rattle.std.specs.Prelude.{Result, Err, None, Ok, Some, Bool, true, false, cond, eqb}

-- what is known by the case is known by its number
pub numbered : {B : Type 0} {r w : SectionRead} → (r ≡ w) × B → (r ≡ w) × (B × (section_by_number r.answer ≡ section_by_number w.answer))
numbered h = (h.0, (h.1, ap (λ (x : SectionRead). section_by_number x.answer) h.0))

module _ (order : ByteOrder) (s : List ℕ) where
  -- a header that was read
  module _ (p : ℕ) (h : Header) (c : Cursor) (e : ◌≡◌ {A = Taken Header} (header_taken order s p) (record { value = h; then = Ok c })) where
    -- check 8 was passed
    pub header_size : p ≤ length s → p + h.size ≤ length s
    unfolding header_taken
    header_size k =
        let z = number_taken order 4 s (number_taken Little 4 s (Ok (start p))).then in
        let f = cleared z.then (size_bad (length s) p z.value) _ c (ap (λ (x : Taken Header). x.then) e) in
        let y : z.value ≡ h.size = ap (λ (x : Taken Header). x.value.size) e in
        rw y at (size_ok (length s) p z.value f.1 k)

  -- the section measured is what a section read with any full lists gives
  pub measured_full : (p : ℕ) (l : Lists) → Full l → read_section order s p l ≡ measured order s p
  unfolding read_section measured read_start
  measured_full p l f =
      rw (
        list_enough _ Frames 510 _ f.frames,
        list_enough _ Lines 510 _ f.lines,
        list_enough _ Units 32767 _ f.units,
        list_enough (section_start (length s) p) Quads 2040 _ f.quads,
      )

-- a header that a reader took keeps to the buffer
pub took_size : (p : ℕ) (old new : Reader) (r : Result Header Refusal) (h : Header) → Took old new r (λ order s q. header_taken order s p) → r ≡ Ok h
    → p ≤ length old.source.«data».now → p + h.size ≤ length old.source.«data».now
took_size p old new (Ok v) h t e k =
    let g : v ≡ h = cc in
    rw g at (header_size old.source.order old.source.«data».now p v new.cursor t.1 k)
took_size p old new (Err why) h t e k = cc

pub measured_numbered : {r w : SectionRead} → r ≡ w → (r ≡ w) × (section_by_number r.answer ≡ section_by_number w.answer)
measured_numbered e = (e, ap (λ (x : SectionRead). section_by_number x.answer) e)

-- ---- THE BODY THAT A SECTION HAS, or what the read gives with none

-- what a section read gives from checks that answer q, and the lists after it
abbrev from : ByteOrder → List ℕ → ℕ → Place → SectionRead
from order s p q = or_refused q (cond (eqb p (length s)) ended_with (read_at order s p))

abbrev after : ByteOrder → List ℕ → ℕ → Place → Lists → Lists
after order s p q l = unless_refused q l (cond (eqb p (length s)) l (lists_at order s p l))

module _ (order : ByteOrder) (s : List ℕ) (p : ℕ) (l : Lists) where
  none_in : (b : Bool) (t : Place) (k : KindFound) (z : ℕ) (r : SectionRead) → cond b (Err ended_with) (body_in t k z) ≡ Err r
      → (r ≡ cond b ended_with (or_refused t (by_kind order k s t (p + 8) z))) × (l ≡ cond b l (unless_refused t l (lists_by_kind order k s t (p + 8) z l)))
  unfolding body_in or_refused unless_refused by_kind lists_by_kind
  none_in true t k z r e = (cc, refl)
  none_in false (Err why) k z r e = (cc, refl)
  none_in false (Ok c) None z r e = (cc, refl)
  none_in false (Ok c) (Some kind) z r e = cc

  none_from : (q : Place) (r : SectionRead) → body_at order s p q ≡ Err r → (r ≡ from order s p q) × (l ≡ after order s p q l)
  unfolding body_at or_refused unless_refused read_at lists_at
  none_from (Err why) r e = (cc, refl)
  none_from (Ok c) r e = let h = header_taken order s p in none_in (eqb p (length s)) h.then (kind_of h.value.letters) (p + h.value.size) r e

  -- r is the read of the body b, and m the lists after it
  module _ (b : Body) (r : BodyRead) (m : Lists) (x : r ≡ body_read order b.kind s (Ok b.run) (p + 8) (Some b.next)) (y : m ≡ body_lists order b.kind s (Ok b.run) (p + 8) (Some b.next) l) where
    body_found : (e : Bool) (t : Place) (k : KindFound) (z : ℕ) → cond e (Err ended_with) (body_in t k z) ≡ Ok b
        → (finished r.answer b.next r.«record» ≡ cond e ended_with (or_refused t (by_kind order k s t (p + 8) z))) × (m ≡ cond e l (unless_refused t l (lists_by_kind order k s t (p + 8) z l)))
    unfolding body_in or_refused unless_refused by_kind lists_by_kind read_body
    body_found true t k z e = cc
    body_found false (Err why) k z e = cc
    body_found false (Ok c) None z e = cc
    body_found false (Ok c) (Some kind) z e = let f : b ≡ record { kind = kind; run = c; next = z } = cc in rw (x, y, f) (refl, refl)

    body_from : (q : Place) → body_at order s p q ≡ Ok b → (finished r.answer b.next r.«record» ≡ from order s p q) × (m ≡ after order s p q l)
    unfolding body_at or_refused unless_refused read_at lists_at
    body_from (Err why) e = cc
    body_from (Ok c) e = let h = header_taken order s p in body_found (eqb p (length s)) h.then (kind_of h.value.letters) (p + h.value.size) e

  -- the checks were passed
  body_cleared : (q : Place) (b : Body) → body_at order s p q ≡ Ok b → (c : Cursor) × q ≡ Ok c
  unfolding body_at
  body_cleared (Err why) b e = cc
  body_cleared (Ok c) b e = (c, refl)

-- what a body or an answer tells, where that beside the blank record is x
pub body_given : {r : Result Body SectionAnswer} {x : Result Body SectionRead} {b : Body} → with_blank r ≡ x → r ≡ Ok b → x ≡ Ok b
unfolding with_blank
body_given e h = sym e ∙ ap with_blank h

pub answer_given : {r : Result Body SectionAnswer} {x : Result Body SectionRead} {a : SectionAnswer} → with_blank r ≡ x → r ≡ Err a → x ≡ Err (answered_with a)
unfolding with_blank
answer_given e h = sym e ∙ ap with_blank h

-- of a section read
module _ (order : ByteOrder) (s : List ℕ) (p : ℕ) (l : Lists) (q : Place) (e : q ≡ read_start (length s) p (length l.quads) (length l.units) (length l.lines) (length l.frames)) where
  pub read_none : (r : SectionRead) → body_at order s p q ≡ Err r → (r ≡ read_section order s p l) × (l ≡ lists_after order s p l)
  unfolding read_section lists_after
  read_none r h = rw (← e) (none_from order s p l q r h)

  pub read_body_at : (b : Body) → body_at order s p q ≡ Ok b → (r : BodyRead) (m : Lists) → r ≡ body_read order b.kind s (Ok b.run) (p + 8) (Some b.next) → m ≡ body_lists order b.kind s (Ok b.run) (p + 8) (Some b.next) l
      → (finished r.answer b.next r.«record» ≡ read_section order s p l) × (m ≡ lists_after order s p l)
  unfolding read_section lists_after
  read_body_at b h r m x y = rw (← e) (body_from order s p l b r m x y q h)

  pub read_needs : (b : Body) → body_at order s p q ≡ Ok b → (p ≤ 16777216) × Full l
  read_needs b h =
      let (c, g) = body_cleared order s p l q b h in
      let (a, f) = read_started _ _ l _ (sym e ∙ g) in
      (omega (arith, a.within, a.most), f)

-- of one with no list lent
module _ (order : ByteOrder) (s : List ℕ) (p : ℕ) (q : Place) (e : q ≡ section_start (length s) p) where
  pub measured_none : (r : SectionRead) → body_at order s p q ≡ Err r → r ≡ measured order s p
  unfolding measured
  measured_none r h = rw (← e) (none_from order s p no_lists q r h).0

  pub measured_body : (b : Body) → body_at order s p q ≡ Ok b → (r : BodyRead) → r ≡ body_read order b.kind s (Ok b.run) (p + 8) (Some b.next) → finished r.answer b.next r.«record» ≡ measured order s p
  unfolding measured
  measured_body b h r x = rw (← e) (body_from order s p no_lists b r _ x refl q h).0

  pub measured_needs : (b : Body) → body_at order s p q ≡ Ok b → p ≤ 16777216
  measured_needs b h =
      let (c, g) = body_cleared order s p no_lists q b h in
      let (f, a) = section_started _ _ _ (sym e ∙ g) in
      omega (arith, a.within, a.most)
