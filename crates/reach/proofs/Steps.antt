-- The steps of a run: how each moves it, and that it gives the same of two buffers that agree as far as the run looked.
use mathlib.Core.Path.{◌≡◌, refl, sym, ap, subst, ◌∙◌}
use Prim.Native.Nat.{ℕ, zero, suc, ◌+◌, ◌-◌, ◌≤◌, ◌<◌, min}
use native.Mathlib.Omega.{arith}
use mathlib.Core.Bool.{Bool, true, false}
use mathlib.Core.List.{List, ◌∷◌}
use lib.ListN.{length, get_or, length-take, length-drop}
use lib.Seq.{drop-cons}
use lib.Dec.{leb, ltb}
use borrow.Author.Tests.{leb-true, leb-false, ltb-true, ltb-false, le-ltb}
use Rattle.core_read.specs.Bytes.{part, number_at}
use Rattle.core_read.specs.Taken.{advanced, moved, sought, number_taken, string_taken, Place}
use Rattle.core_read.specs.declared.cursor.ByteOrder.{ByteOrder}
use Rattle.core_read.specs.declared.cursor.Cursor.{Cursor}
use Rattle.core_read.specs.declared.error.Refusal.{Refusal}
use Rattle.core_read.specs.declared.error.Refusal.TheVariants.{UnexpectedEof}
use Rattle.core_read.proofs.Cursors.{advanced_more, pos_advanced, pos_moved, reach_moved, reach_grows, reach_covers, reach_within, reach_level}
use Rattle.core_read.proofs.Lists.{number_here}
use Rattle.core_read.proofs.Here.{string_here}
use Rattle.core_read.proofs.Runs.{short, stays, seek_to, seek_beyond, seek_stays}
use Rattle.reach.specs.Agrees.{Agrees}
use Rattle.std.specs.Prelude.{Err, Ok}

-- A step came to d from a cursor of p, in this manner, and looked no less far than the run before it, within the n bytes of s. Where p stands at lo or
-- above, so does d, and where the run looked no farther than r, the step gives the same of s'
pub record Leads (lo r n : ℕ) (How : Cursor → Type 0) (p : Place) (d : Cursor) (Same : Type 0) : Type 0 where
  pub from : Cursor
  pub here : p ≡ Ok from
  pub how : How from
  pub grows : from.reach ≤ d.reach
  pub within : from.reach ≤ n → d.reach ≤ n
  pub low : lo ≤ from.pos → lo ≤ d.pos
  pub same : lo ≤ from.pos → d.reach ≤ r → Same

-- how: w bytes were read, which are among the n
pub record Reads (n w : ℕ) (d c : Cursor) : Type 0 where
  pub reads : d ≡ advanced c w
  pub room : 0 < w → c.pos + w ≤ n

abbrev pub Reading : ℕ → ℕ → ℕ → ℕ → Place → Cursor → Type 0 → Type 0
Reading lo r n w p d Same = Leads lo r n (Reads n w d) p d Same

-- it was set to a place within the n bytes
abbrev pub Sought : ℕ → ℕ → ℕ → ℕ → Place → Cursor → Type 0 → Type 0
Sought lo r n to p d Same = Leads lo r n (λ (c : Cursor). (d.pos ≡ to) × (to ≤ n)) p d Same

-- the w bytes from where it stood are among those read
pub record Covers (w : ℕ) (d c : Cursor) : Type 0 where
  pub covers : c.pos + w ≤ d.reach

abbrev pub Far : ℕ → ℕ → ℕ → ℕ → Place → Cursor → Type 0 → Type 0
Far lo r n w p d Same = Leads lo r n (Covers w d) p d Same

-- it was set to places, and at last to h, or not at all
abbrev pub Home : ℕ → ℕ → ℕ → ℕ → Place → Cursor → Type 0 → Type 0
Home lo r n h p d Same = Leads lo r n (λ (c : Cursor). c.pos ≡ h → d.pos ≡ h) p d Same

-- what a kind has beyond the base was read: a body at B whose fixed bytes are k; these lie below the reach, and the end is not past it. Where nothing was
-- sought, a run that has looked as far as it stands still does
pub record Owns (body k : ℕ) (sought : Bool) (d c : Cursor) : Type 0 where
  pub owns : c.pos ≡ body + 76 → (body + k ≤ d.reach) × (d.pos ≤ d.reach)
  pub level : sought ≡ false → c.reach ≡ c.pos → d.reach ≡ d.pos

abbrev pub Owned : ℕ → ℕ → ℕ → ℕ → ℕ → Bool → Place → Cursor → Type 0 → Type 0
Owned lo r n body k sought p d Same = Leads lo r n (Owns body k sought d) p d Same

-- anything
abbrev pub Some : ℕ → ℕ → ℕ → Place → Cursor → Type 0 → Type 0
Some lo r n p d Same = Leads lo r n (λ (c : Cursor). Unit {0}) p d Same

-- the same step, told otherwise
pub told : {lo r n : ℕ} {p : Place} {d : Cursor} {X : Type 0} {Was : Cursor → Type 0} (x : Leads lo r n Was p d X) (How : Cursor → Type 0) → How x.from → Leads lo r n How p d X
told x How h = record { from = x.from; here = x.here; how = h; grows = x.grows; within = x.within; low = x.low; same = x.same }

-- and what it gives
pub so : {lo r n : ℕ} {p : Place} {d : Cursor} {X Y : Type 0} {How : Cursor → Type 0} → Leads lo r n How p d X → (X → Y) → Leads lo r n How p d Y
so x f = record { from = x.from; here = x.here; how = x.how; grows = x.grows; within = x.within; low = x.low; same = λ l m. f (x.same l m) }

-- a step y after another, x
pub after : {lo r n : ℕ} {p q : Place} {d : Cursor} {X Y : Type 0} {A B : Cursor → Type 0} (y : Leads lo r n B q d Y) (x : Leads lo r n A p y.from X) (How : Cursor → Type 0)
    → How x.from → Leads lo r n How p d (X × Y)
after y x How h = record {
  from = x.from;
  here = x.here;
  how = h;
  grows = omega (arith, x.grows, y.grows);
  within = λ l. y.within (x.within l);
  low = λ l. y.low (x.low l);
  same = λ l m. (x.same l (omega (arith, y.grows)), y.same (x.low l) m);
}

-- b bytes read after a others
room_on : (n a b at : ℕ) → (0 < a → at + a ≤ n) → (0 < b → at + a + b ≤ n) → 0 < a + b → at + (a + b) ≤ n
room_on n a zero at f g h = omega (arith, f (omega arith))
room_on n a (suc b) at f g h = omega (arith, g (omega arith))

reads_on : {n a b : ℕ} {c d e : Cursor} → Reads n a d c → Reads n b e d → Reads n (a + b) e c
reads_on {n} {a} {b} {c} x y = record {
  reads = y.reads ∙ ap (λ (d : Cursor). advanced d b) x.reads ∙ advanced_more c a b;
  room = room_on n a b c.pos x.room (λ h. rw (x.reads, pos_advanced) at (y.room h));
}

pub on : {lo r n a b : ℕ} {p q : Place} {d : Cursor} {X Y : Type 0} (y : Reading lo r n b q d Y) → Reading lo r n a p y.from X → Reading lo r n (a + b) p d (X × Y)
on {a = a} {b = b} {d = d} y x = after y x (Reads _ (a + b) d) (reads_on x.how y.how)

-- what was read stays so
pub took_covers : {lo r n w : ℕ} {p : Place} {d : Cursor} {X : Type 0} → 0 < w → (x : Reading lo r n w p d X) → x.from.pos + w ≤ d.reach
took_covers {w = w} h x = subst (λ (e : Cursor). x.from.pos + w ≤ e.reach) (sym x.how.reads) (reach_covers x.from w h)

pub far : {lo r n w : ℕ} {p : Place} {d : Cursor} {X : Type 0} → 0 < w → Reading lo r n w p d X → Far lo r n w p d X
far {w = w} {d = d} h x = told x (Covers w d) (record { covers = took_covers h x })

pub past : {lo r n w : ℕ} {p q : Place} {d : Cursor} {X Y : Type 0} {B : Cursor → Type 0} (y : Leads lo r n B q d Y) → Far lo r n w p y.from X → Far lo r n w p d (X × Y)
past {w = w} {d = d} y x = after y x (Covers w d) (record { covers = omega (arith, x.how.covers, y.grows) })

pub any : {lo r n : ℕ} {p q : Place} {d : Cursor} {X Y : Type 0} {A B : Cursor → Type 0} (y : Leads lo r n B q d Y) → Leads lo r n A p y.from X → Some lo r n p d (X × Y)
any y x = after y x (λ (c : Cursor). Unit {0}) tt

-- with no seek
read_owns : {n w : ℕ} {c d : Cursor} (body k : ℕ) → 0 < w → k ≤ 76 + w → Reads n w d c → Owns body k false d c
read_owns {n} {w} {c} body k h m x =
    let v = reach_covers c w h in
    let e = pos_advanced c w in
    rw x.reads (record { owns = λ f. (omega (arith, v, f), omega (arith, v, e)); level = λ b f. reach_level c f w ∙ sym e })

pub owned : {lo r n w : ℕ} {p : Place} {d : Cursor} {X : Type 0} (body k : ℕ) → 0 < w → k ≤ 76 + w → Reading lo r n w p d X → Owned lo r n body k false p d X
owned {d = d} body k h m x = told x (Owns body k false d) (read_owns body k h m x.how)

-- with seeks
pub owns_sought : (body k : ℕ) (c d : Cursor) → (c.pos ≡ body + 76 → (body + k ≤ d.reach) × (d.pos ≤ d.reach)) → Owns body k true d c
owns_sought body k c d f = record { owns = f; level = λ b. let z : ◌≡◌ {A = ℕ} 0 1 = cc in absurd (omega arith) }

-- a step that reads nothing, and moves nothing
pub none : {lo r n : ℕ} {p : Place} {d : Cursor} (Same : Type 0) (How : Cursor → Type 0) → p ≡ Ok d → How d → Same → Leads lo r n How p d Same
none {d = d} Same How e h x = record { from = d; here = e; how = h; grows = omega arith; within = λ l. l; low = λ l. l; same = λ l m. x }

module _ (lo r : ℕ) (s s' : List ℕ) (a : Agrees lo r s s') where
  pub part_same : (w at : ℕ) → lo ≤ at → at + w ≤ r → at + w ≤ length s → part w s' at ≡ part w s at
  unfolding part
  part_same zero at l m n = refl
  part_same (suc w) at l m n =
      let h : at < length s = omega arith in
      let h' : at < length s' = omega (arith, a.long) in
      rw (drop-cons s at 0 h, drop-cons s' at 0 h', a.same at l (omega arith)) (ap (λ (t : List ℕ). get_or s' at 0 ∷ t) (part_same w (suc at) (omega arith) (omega arith) (omega arith)))

  -- w bytes read at c, within s: what follows of the bytes that are the same
  pub took : (w : ℕ) (c d : Cursor) (Same : Type 0) → 0 < w → c.pos + w ≤ length s → advanced c w ≡ d → (lo ≤ c.pos → c.pos + w ≤ r → Same) → Reading lo r (length s) w (Ok c) d Same
  took w c d Same n fit j f =
      let far = rw j at (reach_covers c w n) in
      record {
        from = c;
        here = refl;
        how = record { reads = sym j; room = λ h. fit };
        grows = rw (← j) (reach_grows c w);
        within = λ l. rw (← j) (reach_within c w (length s) l fit);
        low = λ l. rw (← j, pos_advanced c w) (omega arith);
        same = λ l m. f l (omega (arith, far));
      }

  -- ---- a number

  number_went_by : (order : ByteOrder) (w : ℕ) → 0 < w → (c d : Cursor) (b : Bool) → leb (c.pos + w) (length s) ≡ b → (number_taken order w s (Ok c)).then ≡ Ok d
      → Reading lo r (length s) w (Ok c) d (number_taken order w s' (Ok c) ≡ number_taken order w s (Ok c))
  unfolding number_at
  number_went_by order w n c d true e h =
      let fit : c.pos + w ≤ length s = leb-true (c.pos + w) (length s) e in
      let fit' : c.pos + w ≤ length s' = omega (arith, a.long) in
      let v = number_here order w s c fit in
      let k : ◌≡◌ {A = Place} (Ok (advanced c w)) (Ok d) = sym (ap (λ t. t.then) v) ∙ h in
      let j : advanced c w ≡ d = cc in
      took w c d _ n fit j (λ l m. number_here order w s' c fit' ∙ rw (part_same w c.pos l m fit) (sym v))
  number_went_by order w n c d false e h =
      let z : ◌≡◌ {A = ℕ} 0 1 = cc (short order w s (Ok c) c refl (leb-false (c.pos + w) (length s) e)) in absurd (omega arith)

  pub number_went : (order : ByteOrder) (w : ℕ) → 0 < w → (p : Place) (d : Cursor) → (number_taken order w s p).then ≡ Ok d
      → Reading lo r (length s) w p d (number_taken order w s' p ≡ number_taken order w s p)
  number_went order w n (Ok c) d h = number_went_by order w n c d (leb (c.pos + w) (length s)) refl h
  number_went order w n (Err why) d h = let z : ◌≡◌ {A = ℕ} 0 1 = cc (stays order w s (Err why) why refl) in absurd (omega arith)

  -- ---- a fixed string, of which a byte follows, so that all of it was there

  part_cut : (w at : ℕ) → length (part w s at) ≡ min w (length s - at)
  unfolding part
  part_cut w at = rw (length-take, length-drop)

  string_fits : (w : ℕ) (c : Cursor) → c.pos < length s → (advanced c (length (part w s c.pos))).pos < length s → (b : Bool) → leb (c.pos + w) (length s) ≡ b
      → c.pos + w ≤ length s
  string_fits w c h k true e = leb-true (c.pos + w) (length s) e
  string_fits w c h k false e = absurd (omega (arith, leb-false (c.pos + w) (length s) e, k, pos_advanced c (length (part w s c.pos)), part_cut w c.pos))

  string_none : (w : ℕ) (c : Cursor) → length s ≤ c.pos → (string_taken w s (Ok c)).then ≡ Err (UnexpectedEof c.pos w)
  unfolding string_taken
  string_none w c h = rw (le-ltb c.pos (length s) h)

  string_by : (w : ℕ) → 0 < w → (c d : Cursor) (b : Bool) → ltb c.pos (length s) ≡ b → (string_taken w s (Ok c)).then ≡ Ok d → d.pos < length s
      → Reading lo r (length s) w (Ok c) d (string_taken w s' (Ok c) ≡ string_taken w s (Ok c))
  unfolding string_taken
  string_by w n c d true e h k =
      let at : c.pos < length s = ltb-true c.pos (length s) e in
      let i : ◌≡◌ {A = Place} (Ok (advanced c (length (part w s c.pos)))) (Ok d) = rw e at h in
      let i' : advanced c (length (part w s c.pos)) ≡ d = cc in
      let fit : c.pos + w ≤ length s = string_fits w c at (rw i' k) (leb (c.pos + w) (length s)) refl in
      let fit' : c.pos + w ≤ length s' = omega (arith, a.long) in
      let v = string_here w s c n fit in
      let j' : ◌≡◌ {A = Place} (Ok (advanced c w)) (Ok d) = sym (ap (λ t. t.then) v) ∙ h in
      let j : advanced c w ≡ d = cc in
      took w c d _ n fit j (λ l m. string_here w s' c n fit' ∙ rw (part_same w c.pos l m fit) (sym v))
  string_by w n c d false e h k = let z : ◌≡◌ {A = ℕ} 0 1 = cc (string_none w c (ltb-false c.pos (length s) e)) in absurd (omega arith)

  string_refused : (w : ℕ) (why : Refusal) → (string_taken w s (Err why)).then ≡ Err why
  unfolding string_taken
  string_refused w why = refl

  pub string_went : (w : ℕ) → 0 < w → (p : Place) (d : Cursor) → (string_taken w s p).then ≡ Ok d → d.pos < length s
      → Reading lo r (length s) w p d (string_taken w s' p ≡ string_taken w s p)
  string_went w n (Ok c) d h k = string_by w n c d (ltb c.pos (length s)) refl h k
  string_went w n (Err why) d h k = let z : ◌≡◌ {A = ℕ} 0 1 = cc (string_refused w why) in absurd (omega arith)

  -- ---- a seek, to a place at lo or above

  pub seek_went : (to : ℕ) → lo ≤ to → (p : Place) (d : Cursor) → sought s p to ≡ Ok d → Sought lo r (length s) to p d (sought s' p to ≡ sought s p to)
  seek_went to l (Ok c) d h = seek_by to l c d (leb to (length s)) refl h
    where
      seek_by : (to : ℕ) → lo ≤ to → (c d : Cursor) (b : Bool) → leb to (length s) ≡ b → sought s (Ok c) to ≡ Ok d → Sought lo r (length s) to (Ok c) d (sought s' (Ok c) to ≡ sought s (Ok c) to)
      seek_by to l c d true e h =
          let fit : to ≤ length s = leb-true to (length s) e in
          let v = seek_to s c to to refl fit in
          let k : ◌≡◌ {A = Place} (Ok (moved c to)) (Ok d) = sym v ∙ h in
          let j : moved c to ≡ d = cc in
          record {
            from = c;
            here = refl;
            how = (rw (← j) (pos_moved c to), fit);
            grows = rw (← j, reach_moved c to) (omega arith);
            within = λ m. rw (← j, reach_moved c to) m;
            low = λ m. rw (← j, pos_moved c to) l;
            same = λ m n. seek_to s' c to to refl (omega (arith, a.long)) ∙ sym v;
          }
      seek_by to l c d false e h = let z : ◌≡◌ {A = ℕ} 0 1 = cc (seek_beyond s (Ok c) to c refl (leb-false to (length s) e)) in absurd (omega arith)
  seek_went to l (Err why) d h = let z : ◌≡◌ {A = ℕ} 0 1 = cc (seek_stays s (Err why) to why refl) in absurd (omega arith)
