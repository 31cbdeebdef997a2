-- WHAT THE REACH OF A SECTION READ MEANS. The section at P is a pane whose body stands at P + 8.
use mathlib.Core.Path.{◌≡◌, refl, sym, ap, subst, ◌∙◌}
use Prim.Native.Nat.{ℕ, ◌+◌, ◌-◌, ◌%◌, ◌≤◌, ◌<◌}
use native.Mathlib.Omega.{arith}
use mathlib.Core.Bool.{Bool, true, false, cond, ◌||◌}
use mathlib.Core.List.{List, [], ◌++◌}
use lib.ListN.{length, take, length-take}
use lib.Dec.{lit≤, eqb, ltb}
use borrow.Author.Tests.{ltb-false, le-ltb, ne_eqb}
use Rattle.core_read.specs.Taken.{start, advanced, number_taken, Place}
use Rattle.core_read.specs.declared.error.Refusal.TheVariants.{SectionSize}
use Rattle.core_read.specs.declared.cursor.ByteOrder.{ByteOrder}
use Rattle.core_read.specs.declared.cursor.ByteOrder.TheVariants.{Little}
use Rattle.core_read.specs.declared.cursor.Cursor.{Cursor}
use Rattle.core_read.proofs.Cursors.{start_advanced, pos_start, reach_start}
use Rattle.core_read.proofs.Runs.{cleared}
use Rattle.core_checks.proofs.Checked.{SectionOk, or_false}
use Rattle.strip_header.specs.Header.{read_start, size_bad, header_taken, SectionAnswer}
use Rattle.core_read.specs.Taken.{Taken}
use Rattle.strip_header.specs.declared.Header.{Header}
use Rattle.strip_header.specs.declared.Section.TheVariants as Sections
use Rattle.strip_records.specs.Kinds.{kind_of, KindFound}
use Rattle.strip_records.specs.Whole.{Lists, Full, blank_record}
use Rattle.strip_records.specs.declared.kind.Kind.{Kind}
use Rattle.strip_records.specs.declared.kind.Kind.TheVariants.{Pan1, Pic1, Txt1, Wnd1, Ali1}
use Rattle.strip_records.specs.declared.record.Record.{Record}
use Rattle.core_checks.specs.Checks.{unless_refused, Extent}
use Rattle.strip_kinds.specs.Body.{body_read}
use Rattle.strip_read.specs.Read.{refused_with, ended_with, passed_with, finished, read_body, by_kind, lists_by_kind, or_refused, read_at, read_section, lists_at, lists_after}
use Rattle.strip_read.specs.declared.read.SectionRead.{SectionRead}
use Rattle.strip_read.proofs.Cleared.{read_started}
use Rattle.strip_read.proofs.Moves.{Onward, section_on}
use Rattle.strip.proofs.Back.{start_good, section_end_lem}
use Rattle.reach.specs.Agrees.{Agrees}
use Rattle.reach.specs.Seen.{BodySeen, body_seen, SectionSeen, section_seen}
use Rattle.reach.specs.Figures.{Bounds, SectionRefused}
use Rattle.reach.proofs.Steps.{on, number_went}
use Rattle.reach.proofs.Needed.{agrees_self, agrees_longer, agrees_take, needed, bounds}
use Rattle.std.specs.Prelude.{Err, None, Ok, Some}

-- ---- answers

record Through (q : Place) : Type 0 where
  cursor : Cursor
  here : q ≡ Ok cursor

record OfKind (k : KindFound) : Type 0 where
  kind : Kind
  is : k ≡ Some kind

-- no refusal; no refusal and no end
Given : SectionAnswer → Type 0
Given (Ok Sections.End) = Unit {0}
Given (Ok (Sections.Passed next)) = Unit {0}
Given (Ok (Sections.Pane end next reach)) = Unit {0}
Given (Err why) = ⊥

Found : SectionAnswer → Type 0
Found (Ok Sections.End) = ⊥
Found (Ok (Sections.Passed next)) = Unit {0}
Found (Ok (Sections.Pane end next reach)) = Unit {0}
Found (Err why) = ⊥

found_given : (x : SectionAnswer) → Found x → Given x
unfolding Found Given
found_given (Ok (Sections.Passed next)) f = tt
found_given (Ok (Sections.Pane end next reach)) f = tt
found_given (Ok Sections.End) f = absurd f
found_given (Err why) f = absurd f

or_given : (q : Place) (r : SectionRead) (x : SectionAnswer) → Given x → (or_refused q r).answer ≡ x → Through q × (r.answer ≡ x)
unfolding or_refused refused_with Given
or_given (Ok c) r x g e = (record { cursor = c; here = refl }, e)
or_given (Err why) r x g e = absurd (subst Given (sym e) g)

some_found : (b : Bool) (r : SectionRead) (x : SectionAnswer) → Found x → (cond b ended_with r).answer ≡ x → (b ≡ false) × (r.answer ≡ x)
unfolding ended_with Found
some_found true r x g e = absurd (subst Found (sym e) g)
some_found false r x g e = (refl, e)

kind_pane : (order : ByteOrder) (k : KindFound) (s : List ℕ) (p : Place) (body next x n f : ℕ) → (by_kind order k s p body next).answer ≡ Ok (Sections.Pane x n f) → OfKind k
unfolding by_kind passed_with
kind_pane order (Some kind) s p body next x n f e = record { kind = kind; is = refl }
kind_pane order None s p body next x n f e = let z : ◌≡◌ {A = ℕ} 0 1 = cc in absurd (omega arith)

finished_pane : (a : Place) (r : Record) (next x n f : ℕ) → (finished a next r).answer ≡ Ok (Sections.Pane x n f) → (a ≡ Ok (record { pos = x; reach = f })) × (next ≡ n)
unfolding finished refused_with
finished_pane (Ok c) r next x n f e =
    let u : c.pos ≡ x = cc in
    let v : c.reach ≡ f = cc in
    (rw (← u, ← v), cc)
finished_pane (Err why) r next x n f e = let z : ◌≡◌ {A = ℕ} 0 1 = cc in absurd (omega arith)

-- a body is read or refused, and neither passed nor met as the end
body_not : (a : Place) (r : Record) (next : ℕ) → ((n : ℕ) → (finished a next r).answer ≡ Ok (Sections.Passed n) → ⊥) × ((finished a next r).answer ≡ Ok Sections.End → ⊥)
unfolding finished refused_with
body_not (Ok c) r next = (λ n e. let z : ◌≡◌ {A = ℕ} 0 1 = cc in omega arith, λ e. let z : ◌≡◌ {A = ℕ} 0 1 = cc in omega arith)
body_not (Err why) r next = (λ n e. let z : ◌≡◌ {A = ℕ} 0 1 = cc in omega arith, λ e. let z : ◌≡◌ {A = ℕ} 0 1 = cc in omega arith)

-- ---- the header of a section, and its kind

-- 8 of a longer buffer
size_longer : (n m p z : ℕ) → n ≤ m → size_bad n p z ≡ false → size_bad m p z ≡ false
unfolding size_bad
size_longer n m p z h e =
    let (a, b) = or_false (ltb z 8 || ltb 0 (z % 4)) (ltb (n - p) z) e in
    rw (a, le-ltb (m - p) z (omega (arith, ltb-false (n - p) z b)))

-- the header that was read ends where the body begins, and is the same of a buffer that has its bytes
record HeaderSeen (order : ByteOrder) (p : ℕ) (s s' : List ℕ) (r : ℕ) : Type 0 where
  ends : (header_taken order s p).then ≡ Ok (start (p + 8))
  room : p + 8 ≤ length s
  same : p + 8 ≤ r → header_taken order s' p ≡ header_taken order s p

header_seen : (order : ByteOrder) (p r : ℕ) (s s' : List ℕ) → Agrees p r s s' → p ≤ length s → (c : Cursor) → (header_taken order s p).then ≡ Ok c → HeaderSeen order p s s' r
unfolding header_taken
header_seen order p r s s' a fit c e =
    let q : Place = (number_taken Little 4 s (Ok (start p))).then in
    let z : ℕ = (number_taken order 4 s q).value in
    let k = cleared (number_taken order 4 s q).then (size_bad (length s) p z) (SectionSize (p + 4) z) c e in
    let y = number_went p r s s' a order 4 (lit≤ tt) q c k.0 in
    let x = number_went p r s s' a Little 4 (lit≤ tt) (Ok (start p)) y.from y.here in
    let w = on y x in
    let h : w.from ≡ start p = cc w.here in
    let d : c ≡ start (p + 8) = w.how.reads ∙ ap (λ (b : Cursor). advanced b 8) h ∙ start_advanced p 8 in
    let far : c.reach ≡ p + 8 = ap (λ (b : Cursor). b.reach) d ∙ reach_start (p + 8) in
    let at : p ≤ w.from.pos = rw (h, pos_start) (omega arith) in
    record {
      ends = e ∙ ap Ok d;
      room = rw far at (w.within (rw (h, reach_start) fit));
      same = λ m.
          let u = w.same at (omega (arith, far)) in
          rw (u.0, u.1, k.1, size_longer (length s) (length s') p z a.long k.1);
    }

-- the section at p is a pane of this kind and size
record Opens (order : ByteOrder) (s : List ℕ) (p : ℕ) (l : Lists) (h : Taken Header) (kind : Kind) : Type 0 where
  begins : read_start (length s) p (length l.quads) (length l.units) (length l.lines) (length l.frames) ≡ Ok (start p)
  more : eqb p (length s) ≡ false
  header : header_taken order s p ≡ h
  body : h.then ≡ Ok (start (p + 8))
  is : kind_of h.value.letters ≡ Some kind

-- what is seen of such a section, by what is seen of its body
abbrev section_of : ℕ → ℕ → ℕ → BodySeen → SectionSeen
section_of end next reach b = record {
  read = record { answer = Ok (Sections.Pane end next reach); «record» = b.read.«record» };
  lists = b.lists;
  label = b.label;
}

seen_as : (order : ByteOrder) (s : List ℕ) (p : ℕ) (l : Lists) (h : Taken Header) (kind : Kind) → Opens order s p l h kind → (end reach : ℕ)
    → (body_seen order kind (p + 8) (Some (p + h.value.size)) l s).read.answer ≡ Ok (record { pos = end; reach = reach })
    → section_seen order p l s ≡ section_of end (p + h.value.size) reach (body_seen order kind (p + 8) (Some (p + h.value.size)) l s)
unfolding read_section lists_after or_refused unless_refused read_at lists_at by_kind lists_by_kind read_body finished
seen_as order s p l h kind o end reach e = rw (o.begins, o.more, o.header, o.body, o.is, e)

-- a header that was found: the checks let through, and a section is there
record Headed (order : ByteOrder) (s : List ℕ) (p : ℕ) (l : Lists) (x : SectionAnswer) : Type 0 where
  ok : SectionOk (length s) p
  full : Full l
  more : eqb p (length s) ≡ false
  then : Through (header_taken order s p).then
  rest : (by_kind order (kind_of (header_taken order s p).value.letters) s (header_taken order s p).then (p + 8) (p + (header_taken order s p).value.size)).answer ≡ x

headed : (order : ByteOrder) (s : List ℕ) (p : ℕ) (l : Lists) (x : SectionAnswer) → Found x → (read_section order s p l).answer ≡ x → Headed order s p l x
unfolding read_section read_at
headed order s p l x g e =
    let h : Taken Header = header_taken order s p in
    let (t, e₁) = or_given _ (cond (eqb p (length s)) ended_with (read_at order s p)) x (found_given x g) e in
    let (m, e₂) = some_found (eqb p (length s)) (read_at order s p) x g e₁ in
    let (v, e₃) = or_given h.then (by_kind order (kind_of h.value.letters) s h.then (p + 8) (p + h.value.size)) x (found_given x g) e₂ in
    let (ok, full) = read_started (length s) p l t.cursor t.here in
    record { ok = ok; full = full; more = m; then = v; rest = e₃ }

record Opened (order : ByteOrder) (s : List ℕ) (p : ℕ) (l : Lists) (end next reach : ℕ) : Type 0 where
  header : Taken Header
  kind : Kind
  opens : Opens order s p l header kind
  read : (body_seen order kind (p + 8) (Some (p + header.value.size)) l s).read.answer ≡ Ok (record { pos = end; reach = reach })
  size : p + header.value.size ≡ next
  room : p + 8 ≤ length s
  whole : p % 4 ≡ 0
  small : p ≤ 16777216
  full : Full l

body_pane : (order : ByteOrder) (s : List ℕ) (k : KindFound) (kind : Kind) (q : Place) (c : Cursor) (body next x n f : ℕ) → k ≡ Some kind → q ≡ Ok c
    → (by_kind order k s q body next).answer ≡ Ok (Sections.Pane x n f) → ((body_read order kind s (Ok c) body (Some next)).answer ≡ Ok (record { pos = x; reach = f })) × (next ≡ n)
unfolding by_kind read_body
body_pane order s k kind q c body next x n f g h e =
    let b = body_read order kind s (Ok c) body (Some next) in
    finished_pane b.answer b.«record» next x n f (rw (g, h) at e)

opened : (order : ByteOrder) (s : List ℕ) (p : ℕ) (l : Lists) (end next reach : ℕ) → (read_section order s p l).answer ≡ Ok (Sections.Pane end next reach) → Opened order s p l end next reach
unfolding Found
opened order s p l end next reach e =
    let h : Taken Header = header_taken order s p in
    let t = headed order s p l (Ok (Sections.Pane end next reach)) tt e in
    let k = kind_pane order (kind_of h.value.letters) s h.then (p + 8) (p + h.value.size) end next reach t.rest in
    let g = header_seen order p 0 s s (agrees_self p 0 s) t.ok.within t.then.cursor t.then.here in
    let (r, n) = body_pane order s (kind_of h.value.letters) k.kind h.then (start (p + 8)) (p + 8) (p + h.value.size) end next reach k.is g.ends t.rest in
    record {
      header = h;
      kind = k.kind;
      opens = record { begins = start_good (length s) p l t.ok t.full; more = t.more; header = refl; body = g.ends; is = k.is };
      read = r;
      size = n;
      room = g.room;
      whole = t.ok.whole;
      small = omega (arith, t.ok.most, t.ok.within);
      full = t.full;
    }

-- the same section of a longer buffer that has the header's bytes
opens_still : (order : ByteOrder) (s s' : List ℕ) (p : ℕ) (l : Lists) (end next reach : ℕ) (o : Opened order s p l end next reach) → Agrees p reach s s' → p + 8 ≤ reach
    → length s' ≤ 16777216 → Opens order s' p l o.header o.kind
opens_still order s s' p l end next reach o a far small =
    let b = o.opens in
    let g = header_seen order p reach s s' a (omega (arith, o.room)) (start (p + 8)) (ap (λ (h : Taken Header). h.then) b.header ∙ b.body) in
    record {
      begins = start_good (length s') p l (record { most = small; within = omega (arith, o.room, a.long); whole = o.whole }) o.full;
      more = ne_eqb p (length s') (λ e. omega (arith, o.room, a.long, e));
      header = g.same far ∙ b.header;
      body = b.body;
      is = b.is;
    }

-- ---- the theorems

-- the record is of the kind that was read
kind_read : (order : ByteOrder) (k : Kind) (s : List ℕ) (q : Place) (body : ℕ) (z : Extent) → (body_read order k s q body z).«record».kind ≡ k
unfolding body_read
kind_read order Pan1 s q body z = refl
kind_read order Pic1 s q body z = refl
kind_read order Txt1 s q body z = refl
kind_read order Wnd1 s q body z = refl
kind_read order Ali1 s q body z = refl

-- what a section that is there, of a kind, is not
kind_not : (order : ByteOrder) (s : List ℕ) (k : KindFound) (kind : Kind) (q : Place) (body next n : ℕ) → k ≡ Some kind → (by_kind order k s q body next).answer ≡ Ok (Sections.Passed n) → ⊥
unfolding by_kind read_body
kind_not order s k kind q body next n h e =
    let b = body_read order kind s q body (Some next) in
    (body_not b.answer b.«record» next).0 n (rw h at e)

kind_no_end : (order : ByteOrder) (k : KindFound) (s : List ℕ) (q : Place) (body next : ℕ) → (by_kind order k s q body next).answer ≡ Ok Sections.End → ⊥
unfolding by_kind read_body passed_with
kind_no_end order (Some kind) s q body next e =
    let b = body_read order kind s q body (Some next) in
    (body_not b.answer b.«record» next).1 e
kind_no_end order None s q body next e = let z : ◌≡◌ {A = ℕ} 0 1 = cc in omega arith

end_not : (order : ByteOrder) (s : List ℕ) (p : ℕ) (l : Lists) → (p ≡ length s → ⊥) → (read_section order s p l).answer ≡ Ok Sections.End → ⊥
unfolding read_section read_at Given
end_not order s p l n e =
    let h : Taken Header = header_taken order s p in
    let e₁ = (or_given _ (cond (eqb p (length s)) ended_with (read_at order s p)) (Ok Sections.End) tt e).1 in
    let e₂ : (read_at order s p).answer ≡ Ok Sections.End = rw (ne_eqb p (length s) n) at e₁ in
    kind_no_end order (kind_of h.value.letters) s h.then (p + 8) (p + h.value.size) (or_given h.then _ (Ok Sections.End) tt e₂).1

-- a section that is passed is of no kind, and is passed in every buffer that has its header
kind_passed : (order : ByteOrder) (k : KindFound) (s : List ℕ) (q : Place) (body next n : ℕ) → (by_kind order k s q body next).answer ≡ Ok (Sections.Passed n) → k ≡ None
unfolding by_kind read_body
kind_passed order (Some kind) s q body next n e =
    let b = body_read order kind s q body (Some next) in
    absurd ((body_not b.answer b.«record» next).0 n e)
kind_passed order None s q body next n e = refl

passed_as : (order : ByteOrder) (s : List ℕ) (p : ℕ) (l : Lists) (h : Taken Header) → SectionOk (length s) p → Full l → eqb p (length s) ≡ false → header_taken order s p ≡ h
    → h.then ≡ Ok (start (p + 8)) → kind_of h.value.letters ≡ None
    → ◌≡◌ {A = SectionSeen} (section_seen order p l s) (record { read = passed_with (p + h.value.size); lists = l; label = [] })
unfolding read_section lists_after or_refused unless_refused read_at lists_at by_kind lists_by_kind passed_with blank_record
passed_as order s p l h ok full more e then is = rw (start_good (length s) p l ok full, more, e, then, is)

module _ (order : ByteOrder) (p : ℕ) (l : Lists) where
  abbrev IsPane : List ℕ → ℕ → ℕ → ℕ → Type 0
  IsPane s end next reach = (section_seen order p l s).read.answer ≡ Ok (Sections.Pane end next reach)

  -- by the kind of the record
  pub section_bounds : (s : List ℕ) (end next reach : ℕ) → IsPane s end next reach → Bounds (section_seen order p l s).read.«record».kind (p + 8) (length s) end reach
  section_bounds s end next reach e =
      let o = opened order s p l end next reach e in
      let x = seen_as order s p l o.header o.kind o.opens end reach o.read in
      let k : (section_seen order p l s).read.«record».kind ≡ o.kind = ap (λ (v : SectionSeen). v.read.«record».kind) x ∙ kind_read order o.kind s (Ok (start (p + 8))) (p + 8) (Some (p + o.header.value.size)) in
      subst (λ (z : Kind). Bounds z (p + 8) (length s) end reach) (sym k) (bounds order o.kind (p + 8) (Some (p + o.header.value.size)) l s end reach o.read)

  -- THE PART THAT A SECTION NEEDED: the bytes of [P, reach) decide the read. Another buffer, no shorter and no longer than check 1 lets through, that
  -- has these bytes there gives the same answer, record, lists and label
  pub section_needed : (s s' : List ℕ) (end next reach : ℕ) → IsPane s end next reach → Agrees p reach s s' → length s' ≤ 16777216
      → section_seen order p l s' ≡ section_seen order p l s
  section_needed s s' end next reach e a small =
      let o = opened order s p l end next reach e in
      let far : p + 8 ≤ reach = omega (arith, (section_bounds s end next reach e).fixed) in
      let i : p + 8 - 8 ≡ p = omega arith in
      let n = needed order o.kind (p + 8) (Some (p + o.header.value.size)) l s s' end reach o.read (rw i a) in
      let x = seen_as order s p l o.header o.kind o.opens end reach o.read in
      let y = seen_as order s' p l o.header o.kind (opens_still order s s' p l end next reach o a far small) end reach
      (ap (λ (b : BodySeen). b.read.answer) n ∙ o.read) in
      y ∙ ap (section_of end (p + o.header.value.size) reach) n ∙ sym x

  -- A PANE THAT IS READ KEEPS TO ITS SECTION
  pub section_keeps : (s : List ℕ) (end next reach : ℕ) → IsPane s end next reach → reach ≤ next
  unfolding Onward
  section_keeps s end next reach e = (subst (Onward (length s) p) e (section_on order s p l)).2

  -- so the bytes of its section, [P, P + size), decide it
  pub section_alone : (s s' : List ℕ) (end next reach : ℕ) → IsPane s end next reach → Agrees p next s s' → length s' ≤ 16777216
      → section_seen order p l s' ≡ section_seen order p l s
  section_alone s s' end next reach e a small =
      section_needed s s' end next reach e (record { long = a.long; same = λ i h m. a.same i h (omega (arith, m, section_keeps s end next reach e)) }) small

  -- AN ACCEPTED READ IS THE SAME IN A LONGER STRIP: bytes after the buffer change nothing
  pub section_extends : (s more : List ℕ) (end next reach : ℕ) → IsPane s end next reach → length (s ++ more) ≤ 16777216
      → section_seen order p l (s ++ more) ≡ section_seen order p l s
  section_extends s more end next reach e small =
      section_needed s (s ++ more) end next reach e (agrees_longer p reach s more (section_bounds s end next reach e).within) small

  -- and the same of a section that is passed
  pub passed_extends : (s more : List ℕ) (next : ℕ) → (section_seen order p l s).read.answer ≡ Ok (Sections.Passed next) → length (s ++ more) ≤ 16777216
      → section_seen order p l (s ++ more) ≡ section_seen order p l s
  unfolding Found
  passed_extends s more next e small =
      let h : Taken Header = header_taken order s p in
      let t = headed order s p l (Ok (Sections.Passed next)) tt e in
      let g = header_seen order p 0 s s (agrees_self p 0 s) t.ok.within t.then.cursor t.then.here in
      let a = agrees_longer p (p + 8) s more g.room in
      let g' = header_seen order p (p + 8) s (s ++ more) a t.ok.within t.then.cursor t.then.here in
      let is = kind_passed order (kind_of h.value.letters) s h.then (p + 8) (p + h.value.size) next t.rest in
      let ok : SectionOk (length (s ++ more)) p = record { most = small; within = omega (arith, g.room, a.long); whole = t.ok.whole } in
      let on = ne_eqb p (length (s ++ more)) (λ z. omega (arith, g.room, a.long, z)) in
      passed_as order (s ++ more) p l h ok t.full on (g'.same (omega arith)) g.ends is ∙ sym (passed_as order s p l h t.ok t.full t.more refl g.ends is)

  -- AND NO LESS: of a buffer that is cut below its reach the read is refused, but for one that is cut right at P, which ends there
  section_cut_by : (s : List ℕ) (end next reach n : ℕ) → IsPane s end next reach → (n ≡ p → ⊥) → n < reach
      → (x : SectionAnswer) → (section_seen order p l (take n s)).read.answer ≡ x → SectionRefused x
  unfolding Found
  section_cut_by s end next reach n e other m (Err why) g = record { why = why; refused = refl }
  section_cut_by s end next reach n e other m (Ok Sections.End) g =
      let t = length-take n s in
      let w = (section_bounds s end next reach e).within in
      absurd (end_not order (take n s) p l (λ z. other (omega (arith, z, t, w))) g)
  section_cut_by s end next reach n e other m (Ok (Sections.Passed to)) g =
      let t = headed order (take n s) p l (Ok (Sections.Passed to)) tt g in
      let h = header_seen order p n (take n s) s (agrees_take p n n s (omega arith)) t.ok.within t.then.cursor t.then.here in
      let o = opened order s p l end next reach e in
      let same : header_taken order s p ≡ header_taken order (take n s) p = h.same (omega (arith, h.room, length-take n s)) in
      let k : kind_of (header_taken order (take n s) p).value.letters ≡ Some o.kind = rw (← same, o.opens.header) o.opens.is in
      absurd (kind_not order (take n s) _ o.kind _ (p + 8) _ to k t.rest)
  section_cut_by s end next reach n e other m (Ok (Sections.Pane end' next' reach')) g =
      let t = length-take n s in
      let w = (section_bounds (take n s) end' next' reach' g).within in
      let small : length s ≤ 16777216 = (headed order s p l (Ok (Sections.Pane end next reach)) tt e).ok.most in
      let v = section_needed (take n s) s end' next' reach' g (agrees_take p reach' n s (omega (arith, w, t))) small in
      let y : ◌≡◌ {A = SectionAnswer} (Ok (Sections.Pane end next reach)) (Ok (Sections.Pane end' next' reach')) = sym e ∙ ap (λ (x : SectionSeen). x.read.answer) v ∙ g in
      let z : reach ≡ reach' = cc in
      absurd (omega (arith, z, w, t))

  pub section_cut : (s : List ℕ) (end next reach n : ℕ) → IsPane s end next reach → (n ≡ p → ⊥) → n < reach
      → SectionRefused (section_seen order p l (take n s)).read.answer
  section_cut s end next reach n e other m = section_cut_by s end next reach n e other m _ refl

  pub section_cut_end : (s : List ℕ) (end next reach : ℕ) → IsPane s end next reach → (section_seen order p l (take p s)).read.answer ≡ Ok Sections.End
  unfolding ended_with
  section_cut_end s end next reach e =
      let o = opened order s p l end next reach e in
      let t : length (take p s) ≡ p = length-take p s ∙ omega (arith, o.room) in
      let small : length (take p s) ≤ 16777216 = omega (arith, t, o.small) in
      let x = section_end_lem order (take p s) small (rw t o.whole) l o.full in
      ap (λ (v : SectionRead). v.answer) (rw t at x)
