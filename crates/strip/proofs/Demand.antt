-- DEMAND 3: one claim about whole lists of section writes and the reads after them.
-- What this file uses of the format: what an accepted write and a refused one are, the length of a section, that a section's bytes do not
-- depend on its place, that equal records have equal sections, that a section is read back, and the end.
use mathlib.Core.Path.{◌≡◌, refl, sym, ap, ◌∙◌, subst}
use mathlib.Core.Logic.{◌↔◌}
use Prim.Native.Nat.{ℕ, ◌+◌, ◌%◌, ◌≤◌}
use native.Mathlib.Omega.{arith}
use mathlib.Core.List.{List, [], ◌∷◌, ◌++◌, append_assoc, append-nil}
use lib.ListN.{length, take, drop, replicate, length-append, length-take, length-replicate}
use lib.Seq.{length-take-le, take_at}
use Rattle.core_read.specs.Bytes.{splice}
use Rattle.core_checks.specs.Checks.{unless_refused, written_of, Written}
use Rattle.core_read.specs.declared.error.Refusal.{Refusal}
use Rattle.core_read.specs.declared.cursor.ByteOrder.{ByteOrder}
use Rattle.core_write.proofs.Puts.{splice_cut, length_splice}
use Rattle.core_read.proofs.Back.{Holds}
use Rattle.strip_records.specs.Whole.{Lists, Full, Whole}
use Rattle.strip.specs.Same.{Same, read_whole}
use Rattle.strip_records.specs.Typed.{Typed}
use Rattle.strip_read.specs.Read.{ended_with, read_section, lists_after}
use Rattle.strip_write.specs.Write.{size_of, section, section_end, write_checked, write_answer, write_output}
use Rattle.strip.specs.Strip.{All, Run, step, run_from, run, strip, SameAll, Gives}
use Rattle.strip_read.specs.declared.read.SectionRead.{SectionRead}
use Rattle.strip_header.specs.declared.Section.TheVariants as Sections
use Rattle.strip.specs.Inside.{Inside}
use Rattle.strip_write.proofs.Cleared.{Accepts, write_cleared}
use Rattle.strip.proofs.Same.{section_same, same_both}
use Rattle.strip.proofs.BackKinds.{GoodWhole, body_end, body_reach, read_record}
use Rattle.pane.proofs.Same as pane
use Rattle.strip.proofs.Back.{SectionBack, read_as, reach_inside, length_section, size_whole, size_shift, section_shift, section_back, section_end_lem}
use Rattle.core_read.specs.Taken.{Place}
use Rattle.std.specs.Prelude.{Err, Ok}
use Rattle.strip_header.specs.Header.{SectionAnswer}

-- ---- what an accepted write and a refused one say

pub record Accepted (order : ByteOrder) (w : Whole) (o : List ℕ) (p e : ℕ) : Type 0 where
  pub accepts : Accepts w (length o) p
  pub ends : e ≡ section_end p w
  pub laid : write_output order w o p ≡ splice o p (section order p w)

IsRefused : Written → Type 0
IsRefused (Ok e) = ⊥
IsRefused (Err why) = Unit {0}

never : (why : Refusal) (e : ℕ) → ◌≡◌ {A = Written} (Err why) (Ok e) → ⊥
unfolding IsRefused
never why e h = subst IsRefused h tt

accepted_by : (order : ByteOrder) (w : Whole) (o : List ℕ) (p e : ℕ) (q : Place) → write_checked w (length o) p ≡ q
    → written_of q (section_end p w) ≡ Ok e → Accepted order w o p e
unfolding write_output written_of unless_refused
accepted_by order w o p e (Ok c) h k = record { accepts = write_cleared w (length o) p c h; ends = cc; laid = rw h }
accepted_by order w o p e (Err why) h k = absurd (never why e k)

accepted : (order : ByteOrder) (w : Whole) (o : List ℕ) (p e : ℕ) → write_answer w (length o) p ≡ Ok e → Accepted order w o p e
unfolding write_answer
accepted order w o p e h = accepted_by order w o p e (write_checked w (length o) p) refl h

refused_by : (order : ByteOrder) (w : Whole) (o : List ℕ) (p : ℕ) (why : Refusal) (q : Place) → write_checked w (length o) p ≡ q
    → written_of q (section_end p w) ≡ Err why → write_output order w o p ≡ o
unfolding write_output written_of unless_refused
refused_by order w o p why (Ok c) h k = cc
refused_by order w o p why (Err y) h k = rw h

refused : (order : ByteOrder) (w : Whole) (o : List ℕ) (p : ℕ) (why : Refusal) → write_answer w (length o) p ≡ Err why → write_output order w o p ≡ o
unfolding write_answer
refused order w o p why h = refused_by order w o p why (write_checked w (length o) p) refl h

IsEnd : SectionAnswer → Type 0
IsEnd (Ok Sections.End) = Unit {0}
IsEnd (Ok (Sections.Passed next)) = ⊥
IsEnd (Ok (Sections.Pane end next reach)) = ⊥
IsEnd (Err why) = ⊥

end_pane : (x e r : ℕ) → ◌≡◌ {A = SectionAnswer} (Ok Sections.End) (Ok (Sections.Pane x e r)) → ⊥
unfolding IsEnd
end_pane x e r h = subst IsEnd h tt

take_splice : (o : List ℕ) (p : ℕ) (xs : List ℕ) → p + length xs ≤ length o → take (p + length xs) (splice o p xs) ≡ take p o ++ xs
take_splice o p xs h =
    rw (splice_cut o p xs h)
    (take_at (take p o ++ xs) (drop (p + length xs) o) (p + length xs) (simp (length-append, length-take) (omega arith)))

-- what is read of a section is equal to what was written
section_is : {order : ByteOrder} {s : List ℕ} {p : ℕ} {l : Lists} {w : Whole} → SectionBack order s p l w
    → Same (read_whole s (read_as p w) (lists_after order s p l)) w
unfolding read_record
section_is {w = w} e = record { kind = refl; base = pane.read_same w.pane.base; own = e.own }

-- ---- the strip is the sections of what was kept

module _ (order : ByteOrder) where
  sections : List Whole → List ℕ
  sections [] = []
  sections (w ∷ ws) = section order 0 w ++ sections ws

  ends_from : ℕ → List Whole → List ℕ
  ends_from p [] = []
  ends_from p (w ∷ ws) = (p + size_of 0 w) ∷ ends_from (p + size_of 0 w) ws

  record Grown (o : List ℕ) (p : ℕ) (t : Run) : Type 0 where
    stripped : strip t ≡ take p o ++ sections t.kept
    ended : t.ends ≡ ends_from p t.kept
    good : All GoodWhole t.kept
    inside : t.place ≤ length t.out
    small : p ≤ 16777216 → t.place ≤ 16777216

  grown_step : (w : Whole) (t : Typed w) (ws : List Whole) (ih : (o : List ℕ) (p : ℕ) → p ≤ length o → Grown o p (run_from order ws o p))
      (o : List ℕ) (p : ℕ) → p ≤ length o → (a : Written) → write_answer w (length o) p ≡ a
      → Grown o p (step a w (λ q. run_from order ws (write_output order w o p) q) p)
  unfolding step sections ends_from All
  grown_step w t ws ih o p h (Err why) e = rw (refused order w o p why e) (ih o p h)
  grown_step w t ws ih o p h (Ok e) k =
      let y = accepted order w o p e k in
      let a = y.accepts in
      let g : GoodWhole w = record { typed = t; good = a.good; own = a.own } in
      let v : section order p w ≡ section order 0 w = section_shift order p w a.place.whole in
      let z : size_of p w ≡ size_of 0 w = size_shift p w a.place.whole in
      let l : length (section order p w) ≡ size_of p w = length_section order p w g in
      let f : p + length (section order p w) ≤ length o = rw l a.fits in
      let o' = write_output order w o p in
      let n : length o' ≡ length o = rw y.laid (length_splice o p (section order p w)) in
      let i : e ≡ p + length (section order p w) = rw l y.ends in
      let j : e ≡ p + size_of 0 w = y.ends ∙ ap (λ (x : ℕ). p + x) z in
      let s : take e o' ≡ take p o ++ section order 0 w = rw (i, y.laid, ← v) (take_splice o p (section order p w) f) in
      let d : Grown o' e (run_from order ws o' e) = ih o' e (omega (arith, n, i, f)) in
      record {
        stripped = d.stripped ∙ rw (s, append_assoc);
        ended = rw (← j) (ap (λ (x : List ℕ). e ∷ x) d.ended);
        good = (g, d.good);
        inside = d.inside;
        small = λ x. d.small (omega (arith, i, f, a.place.most));
      }

  grown : (ws : List Whole) → All Typed ws → (o : List ℕ) (p : ℕ) → p ≤ length o → Grown o p (run_from order ws o p)
  unfolding run_from sections ends_from All
  grown [] t o p h = record { stripped = sym (append-nil _); ended = refl; good = tt; inside = h; small = λ k. k }
  grown (w ∷ ws) t o p h = grown_step w t.0 ws (grown ws t.1) o p h (write_answer w (length o) p) refl

  -- ---- the section of a good record after bytes b, at a multiple of 4, with those of others after it

  record Next (b : List ℕ) (w : Whole) (ws : List Whole) : Type 0 where
    back : (l : Lists) → Full l → SectionBack order (b ++ (section order 0 w ++ sections ws)) (length b) l w
    answer : (l : Lists) → Full l → (read_section order (b ++ (section order 0 w ++ sections ws)) (length b) l).answer
        ≡ Ok (Sections.Pane (body_end w.pane.kind (length b + 8) w) (length b + size_of 0 w) (body_reach w.pane.kind (length b + 8) w))
    inside : body_reach w.pane.kind (length b + 8) w ≤ length b + size_of 0 w
    long : length (b ++ section order 0 w) ≡ length b + size_of 0 w
    whole : length (b ++ section order 0 w) % 4 ≡ 0

  next : (w : Whole) (ws : List Whole) → GoodWhole w → (b : List ℕ) → length b % 4 ≡ 0 → length (b ++ (section order 0 w ++ sections ws)) ≤ 16777216 → Next b w ws
  next w ws g b h k =
      let l : length (section order 0 w) ≡ size_of 0 w = length_section order 0 w g in
      let z : size_of 0 w % 4 ≡ 0 = size_whole _ in
      let n : length (b ++ section order 0 w) ≡ length b + size_of 0 w = rw (length-append, l) in
      let s = b ++ (section order 0 w ++ sections ws) in
      let v : section order (length b) w ≡ section order 0 w = section_shift order (length b) w h in
      let q : size_of (length b) w ≡ size_of 0 w = size_shift (length b) w h in
      let x : Holds s (length b) (section order (length b) w) = rw v (record { before = b; after = sections ws; whole = refl; place = refl }) in
      record {
        back = section_back order (length b) w g k h x;
        answer = λ r full. ap (λ (y : SectionRead). y.answer) (section_back order (length b) w g k h x r full).read
            ∙ ap (λ (y : ℕ). Ok (Sections.Pane (body_end w.pane.kind (length b + 8) w) (length b + y) (body_reach w.pane.kind (length b + 8) w))) q;
        inside = omega (arith, reach_inside (length b) w, q);
        long = n;
        whole = omega (arith, n, z, h);
      }

  -- ---- reading the sections of good records from a place that is a multiple of 4 gives them back, and their ends

  gives : (ws : List Whole) → All GoodWhole ws → (b : List ℕ) → length b % 4 ≡ 0 → length (b ++ sections ws) ≤ 16777216
      → Gives order (b ++ sections ws) (length b) ws (ends_from (length b) ws)
  unfolding Gives sections ends_from All ended_with
  gives [] g b h k = λ l full. rw (append-nil b, section_end_lem order b (rw (append-nil b) at k) h l full)
  gives (w ∷ ws) g b h k =
      let n = next w ws g.0 b h k in
      let ih = gives ws g.1 (b ++ section order 0 w) n.whole (rw append_assoc k) in (
        λ l full.
            let e = n.back l full in
            record {
              end = body_end w.pane.kind (length b + 8) w;
              reach = body_reach w.pane.kind (length b + 8) w;
              answer = n.answer l full;
              same = rw (ap (λ (y : SectionRead). y.«record») e.read) (section_is e);
            },
        rw (append_assoc, n.long) at ih,
      )

  -- ---- what reading gives is one list

  some : Lists
  some = record { quads = replicate 2040 0; units = replicate 32767 0; lines = replicate 510 0; frames = replicate 510 0 }

  some_full : Full some
  unfolding some
  some_full = record {
    quads = rw length-replicate (omega arith);
    units = rw length-replicate (omega arith);
    lines = rw length-replicate (omega arith);
    frames = rw length-replicate (omega arith);
  }

  same_read : (s : List ℕ) (p : ℕ) (ws vs : List Whole) (es fs : List ℕ) → Gives order s p ws es → Gives order s p vs fs → SameAll ws vs
  unfolding Gives SameAll
  same_read s p [] vs (e ∷ es) fs g h = absurd g
  same_read s p (w ∷ ws) vs [] fs g h = absurd g
  same_read s p [] [] [] [] g h = tt
  same_read s p [] [] [] (f ∷ fs) g h = absurd h
  same_read s p [] (v ∷ vs) [] [] g h = absurd h
  same_read s p [] (v ∷ vs) [] (f ∷ fs) g h =
      let k = h.0 some some_full in
      absurd (end_pane k.end f k.reach (sym (g some some_full) ∙ k.answer))
  same_read s p (w ∷ ws) [] (e ∷ es) [] g h =
      let k = g.0 some some_full in
      absurd (end_pane k.end e k.reach (sym (h some some_full) ∙ k.answer))
  same_read s p (w ∷ ws) [] (e ∷ es) (f ∷ fs) g h = absurd h
  same_read s p (w ∷ ws) (v ∷ vs) (e ∷ es) [] g h = absurd h
  same_read s p (w ∷ ws) (v ∷ vs) (e ∷ es) (f ∷ fs) g h =
      let k = g.0 some some_full in
      let j = h.0 some some_full in
      let a = k.answer in
      let c = j.answer in
      let b : e ≡ f = cc in (
        same_both _ w v k.same j.same,
        same_read s e ws vs es fs g.1 (rw (← b) at h.1),
      )

  sections_same : (ws vs : List Whole) → SameAll ws vs → sections ws ≡ sections vs
  unfolding sections SameAll
  sections_same [] [] h = refl
  sections_same [] (v ∷ vs) h = absurd h
  sections_same (w ∷ ws) [] h = absurd h
  sections_same (w ∷ ws) (v ∷ vs) h = rw (section_same order 0 w v h.0, sections_same ws vs h.1)

  run_strip : (ws : List Whole) → All Typed ws → (o : List ℕ) → strip (run order ws o) ≡ sections (run order ws o).kept
  run_strip ws t o = (grown ws t o 0 (omega arith)).stripped

  run_small : (ws : List Whole) → All Typed ws → (o : List ℕ) → length (sections (run order ws o).kept) ≤ 16777216
  run_small ws t o =
      let y = run order ws o in
      let g : Grown o 0 y = grown ws t o 0 (omega arith) in
      let n : length (strip y) ≡ y.place = length-take-le y.place y.out g.inside in
      rw (← run_strip ws t o, n) (g.small (omega arith))

  run_gives : (ws : List Whole) → All Typed ws → (o : List ℕ) → Gives order (strip (run order ws o)) 0 (run order ws o).kept (run order ws o).ends
  run_gives ws t o =
      let g = grown ws t o 0 (omega arith) in
      rw (run_strip ws t o, g.ended) (gives (run order ws o).kept g.good [] refl (run_small ws t o))

-- DEMAND 3, the whole of it, for all five kinds. Its parts, and the demand's sentences:
-- `ws`, `vs`: "any list of section writes of pane records, of any kinds in any order, refused ones included"; `o`, `u`: "one output of any length and bytes".
-- `run`: "the first is made at place 0; after an accepted write the next is made at the end that this one answered, after a refused one at the
--   same place again; each call gets the output as the one before left it, and nobody else writes there meanwhile": `step` hands the output on.
--   "Then each is accepted, laid out or refused as document 01 defines it": `write_answer` and `write_output` in it are the contract of `write_section`.
-- `kept`: "the records that the accepted ones were handed, each with its lists and label, in their order"; `strip`: the output up to the last end.
-- the first part: "for every two such lists of writes, the kept lists are equal exactly when the two strips hold the same bytes".
-- the second and the third: "either strip, read section by section from place 0, each read at the next place that the one before gave, gives its
--   kept list, and then its end. No read is refused, and the next places are the ends that the accepted writes answered".
-- `order`: both lists of writes and all reads are in the one byte order. It is any order: no law of this file goes by its cases.
-- `Typed` is what the types of the code guarantee of a record and its lists; `strip::record::typed` is proved to show that they do.
-- Ruled out, with the contracts: a reader that gives one blank pane; one that refuses all; a writer that touches nothing, or lays down the whole
-- strip in its first call; an invented next place; an end before the length; a 16 while the section fits.
pub demand3 : (order : ByteOrder) (ws vs : List Whole) → All Typed ws → All Typed vs → (o u : List ℕ)
    → (SameAll (run order ws o).kept (run order vs u).kept ↔ (strip (run order ws o) ≡ strip (run order vs u)))
    × Gives order (strip (run order ws o)) 0 (run order ws o).kept (run order ws o).ends
    × Gives order (strip (run order vs u)) 0 (run order vs u).kept (run order vs u).ends
demand3 order ws vs t r o u = (
  (
    λ e. run_strip order ws t o ∙ sections_same order _ _ e ∙ sym (run_strip order vs r u),
    λ e. same_read order (strip (run order vs u)) 0 _ _ _ _ (rw e at (run_gives order ws t o)) (run_gives order vs r u),
  ),
  run_gives order ws t o,
  run_gives order vs r u,
)

-- ---- beside demand 3: how far its reads look

inside_from : (order : ByteOrder) (ws : List Whole) → All GoodWhole ws → (b : List ℕ) → length b % 4 ≡ 0 → length (b ++ sections order ws) ≤ 16777216
    → Inside order (b ++ sections order ws) (length b) (ends_from order (length b) ws)
unfolding Inside sections ends_from All
inside_from order [] g b h k = tt
inside_from order (w ∷ ws) g b h k =
    let n = next order w ws g.0 b h k in
    let ih = inside_from order ws g.1 (b ++ section order 0 w) n.whole (rw append_assoc k) in (
      λ l full. record {
        end = body_end w.pane.kind (length b + 8) w;
        reach = body_reach w.pane.kind (length b + 8) w;
        answer = n.answer l full;
        inside = n.inside;
      },
      rw (append_assoc, n.long) at ih,
    )

-- NO SECTION OF A STRIP THAT WAS WRITTEN LOOKS PAST ITS END: each read of demand 3 has a reach of at most its next place
pub strip_inside : (order : ByteOrder) (ws : List Whole) → All Typed ws → (o : List ℕ) → Inside order (strip (run order ws o)) 0 (run order ws o).ends
strip_inside order ws t o =
    let g = grown order ws t o 0 (omega arith) in
    rw (run_strip order ws t o, g.ended) (inside_from order (run order ws o).kept g.good [] refl (run_small order ws t o))
