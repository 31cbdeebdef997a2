-- WHAT THE REACH OF A BODY READ MEANS. A body at B is read of a buffer s, and the read is accepted with an end and a reach.
-- Every statement is of the run that follows the checks 1 to 3, of any kind, in any byte order, in a buffer or in a section, with any lists lent. `Calls` has
-- them of the calls.
use mathlib.Core.Path.{◌≡◌, refl, sym, ap, ◌∙◌}
use Prim.Native.Nat.{ℕ, ◌-◌, ◌≤◌, ◌<◌}
use native.Mathlib.Omega.{arith}
use mathlib.Core.List.{List, ◌++◌}
use lib.ListN.{length, take, length-take, length-append, get_or-append}
use lib.Seq.{get_or-take}
use Rattle.core_read.specs.declared.cursor.Cursor.{Cursor}
use Rattle.core_read.specs.Taken.{start, Place}
use Rattle.core_read.specs.declared.cursor.ByteOrder.{ByteOrder}
use Rattle.core_read.proofs.Cursors.{pos_start, reach_start}
use Rattle.strip_records.specs.Whole.{Lists}
use Rattle.strip_records.specs.declared.kind.Kind.{Kind}
use Rattle.reach.specs.Agrees.{Agrees}
use Rattle.reach.specs.Seen.{BodySeen, body_seen}
use Rattle.reach.specs.Figures.{Bounds, BodyRefused}
use Rattle.reach.proofs.ByKind.{body_ran}
use Rattle.core_checks.specs.Checks.{Extent}
use Rattle.std.specs.Prelude.{Err, Ok}

-- a buffer agrees with itself, with a longer one, and, up to n, with its first n bytes
pub agrees_self : (lo r : ℕ) (s : List ℕ) → Agrees lo r s s
agrees_self lo r s = record { long = omega arith; same = λ i l m. refl }

pub agrees_longer : (lo r : ℕ) (s more : List ℕ) → r ≤ length s → Agrees lo r s (s ++ more)
agrees_longer lo r s more h = record { long = rw length-append (omega arith); same = λ i l m. sym (get_or-append s more 0 i (omega arith)) }

pub agrees_take : (lo r n : ℕ) (s : List ℕ) → r ≤ n → Agrees lo r (take n s) s
agrees_take lo r n s h = record { long = rw length-take (omega arith); same = λ i l m. get_or-take n s i 0 (omega arith) }

-- what is cut below its reach is refused: were it read, it would be read so of the whole, with a reach within what is left
module _ (lo : ℕ) (seen : List ℕ → BodySeen) (s : List ℕ) (n end reach : ℕ) (e : (seen s).read.answer ≡ Ok (record { pos = end; reach = reach })) (m : n < reach)
    (within : (end' reach' : ℕ) → (seen (take n s)).read.answer ≡ Ok (record { pos = end'; reach = reach' }) → reach' ≤ length (take n s))
    (same : (end' reach' : ℕ) → (seen (take n s)).read.answer ≡ Ok (record { pos = end'; reach = reach' }) → Agrees lo reach' (take n s) s → seen s ≡ seen (take n s)) where
  cut_by : (x : Place) → (seen (take n s)).read.answer ≡ x → BodyRefused x
  cut_by (Err why) g = record { why = why; refused = refl }
  cut_by (Ok c) g =
      let t = length-take n s in
      let w = within c.pos c.reach g in
      let v = same c.pos c.reach g (agrees_take lo c.reach n s (omega (arith, w, t))) in
      let y : ◌≡◌ {A = Place} (Ok (record { pos = end; reach = reach })) (Ok c) = sym e ∙ ap (λ (x : BodySeen). x.read.answer) v ∙ g in
      let d : ◌≡◌ {A = Cursor} (record { pos = end; reach = reach }) c = cc in
      let z : reach ≡ c.reach = ap (λ (x : Cursor). x.reach) d in
      absurd (omega (arith, z, w, t))

  pub cut_of : BodyRefused (seen (take n s)).read.answer
  cut_of = cut_by _ refl

module _ (order : ByteOrder) (k : Kind) (body : ℕ) (z : Extent) (l : Lists) where
  abbrev Accepted : List ℕ → ℕ → ℕ → Type 0
  Accepted s end reach = (body_seen order k body z l s).read.answer ≡ Ok (record { pos = end; reach = reach })

  -- THE PART THAT A PANE NEEDED: the bytes of [B − 8, reach) decide the read. Another buffer, no shorter, that has these bytes there gives the same
  -- answer, record, lists and label
  pub needed : (s s' : List ℕ) (end reach : ℕ) → Accepted s end reach → Agrees (body - 8) reach s s' → body_seen order k body z l s' ≡ body_seen order k body z l s
  needed s s' end reach e a =
      let x = body_ran order body z l k s s' end reach e a in
      let c : x.went.from ≡ start body = cc x.went.here in
      x.went.same (rw (c, pos_start) (omega arith)) (omega (arith, x.far))

  pub bounds : (s : List ℕ) (end reach : ℕ) → Accepted s end reach → Bounds k body (length s) end reach
  bounds s end reach e =
      let x = body_ran order body z l k s s end reach e (agrees_self (body - 8) reach s) in
      let c : x.went.from ≡ start body = cc x.went.here in
      let v = x.went.how c in
      let i : x.went.from.reach ≤ length s = rw (c, reach_start) (omega (arith, v.base)) in
      record {
        fixed = omega (arith, v.fixed, x.far);
        ended = omega (arith, v.ended, x.far, x.stop);
        within = omega (arith, x.went.within i, x.far);
        straight = λ b. omega (arith, v.level b, x.far, x.stop);
      }

  -- AND NO LESS: of a buffer that is cut below its reach the read is refused
  pub cut : (s : List ℕ) (end reach n : ℕ) → Accepted s end reach → n < reach → BodyRefused (body_seen order k body z l (take n s)).read.answer
  cut s end reach n e m =
      cut_of (body - 8) (body_seen order k body z l) s n end reach e m (λ end' reach' g. (bounds (take n s) end' reach' g).within) (λ end' reach' g a. needed (take n s) s end' reach' g a)

  -- so bytes after the buffer change nothing
  pub read_extends : (s more : List ℕ) (end reach : ℕ) → Accepted s end reach → body_seen order k body z l (s ++ more) ≡ body_seen order k body z l s
  read_extends s more end reach e = needed s (s ++ more) end reach e (agrees_longer (body - 8) reach s more (bounds s end reach e).within)
