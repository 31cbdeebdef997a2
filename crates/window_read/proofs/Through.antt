-- What is known of a run over a window that came through.
use Rattle.core_read.specs.Taken.{cursor_of}
use mathlib.Core.Path.{◌≡◌, refl, sym, ap, ◌∙◌, subst}
use mathlib.Core.Bool.{Bool, true, false, cond}
use mathlib.Core.List.{List}
use Prim.Native.Nat.{ℕ, zero, suc, ◌+◌, ◌-◌, ◌*◌, ◌≤◌}
use native.Mathlib.Omega.{arith}
use native.Mathlib.Nat.{mul-suc, mul-zero}
use borrow.Author.Tests.{leb-true}
use lib.Dec.{leb}
use lib.ListN.{length}
use Rattle.core_read.specs.Bytes.{number_at}
use Rattle.core_read.specs.Taken.{advanced, moved, sought, number_taken, Place}
use Rattle.core_read.specs.Taken.{Taken}
use Rattle.core_read.specs.Lists.{numbers_taken, numbers_at}
use Rattle.core_read.specs.declared.error.Refusal.{Refusal}
use Rattle.core_read.specs.declared.error.Refusal.TheVariants.{UnexpectedEof}
use Rattle.core_read.specs.declared.cursor.ByteOrder.{ByteOrder}
use Rattle.core_read.specs.declared.cursor.Cursor.{Cursor}
use Rattle.core_read.proofs.Cursors.{pos_advanced, pos_moved}
use Rattle.core_read.proofs.Runs.{seek_stays}
use Rattle.core_read.specs.declared.reader.Reader.{Reader}
use Rattle.core_read.specs.declared.reader.Source.{Source}
use Rattle.core_read.proofs.Lists.{numbers_here, numbers_stay}
use Rattle.window_read.specs.Window.{content_taken, frame_taken, frames_taken, window_taken, window_of, EachFrame, Passed}
use Rattle.window_read.specs.declared.read.WindowFound.{WindowFound}
use Rattle.std.specs.Prelude.{Err, Ok}
use Rattle.window_read.proofs.Run.{frames_stay}

-- ---- a run that came through

abbrev pub IsAt : Place → Type 0
IsAt (Ok c) = Unit {0}
IsAt (Err why) = ⊥

-- it stood before
record Stood (p : Place) : Type 0 where
  pub at : Cursor
  pub here : p ≡ Ok at

stood : (p q : Place) (c : Cursor) → ((why : Refusal) → p ≡ Err why → q ≡ Err why) → q ≡ Ok c → Stood p
stood (Ok d) q c f e = record { at = d; here = refl }
stood (Err why) q c f e = absurd (subst IsAt (sym e ∙ f why refl) tt)

pub at_same : (a b : Cursor) → ◌≡◌ {A = Place} (Ok a) (Ok b) → a ≡ b
at_same a b e = cc

-- w bytes were read from p to d
record Came (s : List ℕ) (w : ℕ) (p : Place) (d : Cursor) : Type 0 where
  pub at : Cursor
  pub here : p ≡ Ok at
  pub room : at.pos + w ≤ length s
  pub went : d.pos ≡ at.pos + w

module _ (order : ByteOrder) (w : ℕ) (s : List ℕ) where
  came_by : (c d : Cursor) (v : ℕ) (t : Bool) → leb (c.pos + w) (length s) ≡ t
      → (cond {A = Taken ℕ} t (record { value = v; then = Ok (advanced c w) }) (record { value = 0; then = Err (UnexpectedEof c.pos w) })).then ≡ Ok d
      → Came s w (Ok c) d
  came_by c d v true h e = record {
    at = c;
    here = refl;
    room = leb-true (c.pos + w) (length s) h;
    went = ap (λ (x : Cursor). x.pos) (sym (at_same _ _ e)) ∙ pos_advanced c w;
  }
  came_by c d v false h e = absurd (subst IsAt (sym e) tt)

  number_came : (p : Place) (d : Cursor) → (number_taken order w s p).then ≡ Ok d → Came s w p d
  unfolding number_taken
  number_came (Err why) d e = absurd (subst IsAt (sym e) tt)
  number_came (Ok c) d e = came_by c d (number_at order w s c.pos) (leb (c.pos + w) (length s)) refl e

  -- numbers that were read had their bytes ahead
  numbers_ahead : (n : ℕ) (c d : Cursor) → c.pos ≤ length s → (numbers_taken order w n s (Ok c)).then ≡ Ok d → c.pos + w * n ≤ length s
  unfolding numbers_taken
  numbers_ahead zero c d h e = omega (arith, h, mul-zero w)
  numbers_ahead (suc n) c d h e =
      let p : Place = (number_taken order w s (Ok c)).then in
      let st : Stood p = stood p _ d (λ why k. ap (λ (q : Place). (numbers_taken order w n s q).then) k ∙ numbers_stay order w s n why) e in
      let first = number_came (Ok c) st.at st.here in
      let same : c ≡ first.at = at_same c first.at first.here in
      let rest = numbers_ahead n st.at d (omega (arith, first.went, first.room)) (rw st.here at e) in
      omega (arith, mul-suc w n, rest, first.went, ap (λ (x : Cursor). x.pos) same)

module _ (s : List ℕ) where
  sought_by : (c d : Cursor) (to : ℕ) (t : Bool) → leb to (length s) ≡ t
      → cond {A = Place} t (Ok (moved c to)) (Err (UnexpectedEof (length s) (to - length s))) ≡ Ok d → (d.pos ≡ to) × (to ≤ length s)
  sought_by c d to true h e = (ap (λ (x : Cursor). x.pos) (sym (at_same _ _ e)) ∙ pos_moved c to, leb-true to (length s) h)
  sought_by c d to false h e = absurd (subst IsAt (sym e) tt)

  sought_at : (p : Place) (d : Cursor) (to : ℕ) → sought s p to ≡ Ok d → (d.pos ≡ to) × (to ≤ length s)
  unfolding sought
  sought_at (Err why) d to e = absurd (subst IsAt (sym e) tt)
  sought_at (Ok c) d to e = sought_by c d to (leb to (length s)) refl e

module _ (order : ByteOrder) (s : List ℕ) where
  content_within : (p : Place) (d : Cursor) → (content_taken order s p).then ≡ Ok d → d.pos ≤ length s
  unfolding content_taken
  content_within p d e =
      let last = number_came order 1 s _ d e in
      omega (arith, last.went, last.room)

  frame_came : (p : Place) (d : Cursor) → (frame_taken order s p).then ≡ Ok d → Came s 4 p d
  unfolding frame_taken
  frame_came p d e =
      let w₃ = number_came order 1 s _ d e in
      let w₂ = number_came order 1 s _ w₃.at w₃.here in
      let w₁ = number_came order 2 s p w₂.at w₂.here in
      record {
        at = w₁.at;
        here = w₁.here;
        room = omega (arith, w₁.went, w₂.went, w₃.room);
        went = omega (arith, w₁.went, w₂.went, w₃.went);
      }

  each_more : (from table n : ℕ) → from + number_at order 4 s table + 4 ≤ length s → EachFrame order s from (table + 4) n → EachFrame order s from table (suc n)
  each_more from table n first rest zero h =
      let e : table + 4 * 0 ≡ table = omega arith in
      rw e first
  each_more from table n first rest (suc i) h =
      let e : table + 4 * suc i ≡ table + 4 + 4 * i = omega arith in
      rw e (rest i (omega arith))

  frames_each : (from n table : ℕ) (p : Place) (d : Cursor) → (frames_taken order s from (numbers_at order 4 n s table) p).then ≡ Ok d
      → EachFrame order s from table n
  unfolding frames_taken numbers_at
  frames_each from zero table p d e = λ i h. absurd (omega arith)
  frames_each from (suc n) table p d e =
      let to : ℕ = from + number_at order 4 s table in
      let q : Place = (frame_taken order s (sought s p to)).then in
      let st : Stood q =
      stood q _ d
      (λ why k. ap (λ (x : Place). (frames_taken order s from (numbers_at order 4 n s (table + 4)) x).then) k ∙ frames_stay order s from (numbers_at order 4 n s (table + 4)) why) e in
      let f = frame_came (sought s p to) st.at st.here in
      let g = sought_at s p f.at to f.here in
      each_more from table n (omega (arith, f.room, g.0)) (frames_each from n (table + 4) q d e)

  -- the same by the places of the run
  record Parts (p₃ p₅ : Place) (k n from : ℕ) : Type 0 where
    pub quads : (cursor_of p₃).pos + 4 * k ≤ length s
    pub table : (cursor_of p₅).pos + 4 * n ≤ length s
    pub frames : EachFrame order s from (cursor_of p₅).pos n

  through : (p₂ p₃ p₄ p₅ p₆ p₇ p₈ : Place) (k n from a b : ℕ) (l : List ℕ) (c : Cursor)
      → p₃ ≡ (content_taken order s p₂).then → p₄ ≡ (numbers_taken order 4 k s p₃).then → p₅ ≡ sought s p₄ a → p₆ ≡ (numbers_taken order 4 n s p₅).then
      → l ≡ (numbers_taken order 4 n s p₅).value → p₇ ≡ (frames_taken order s from l p₆).then → p₈ ≡ sought s p₇ b → p₈ ≡ Ok c → Parts p₃ p₅ k n from
  through p₂ p₃ p₄ p₅ p₆ p₇ p₈ k n from a b l c e₃ e₄ e₅ e₆ el e₇ e₈ e =
      let s₇ : Stood p₇ = stood p₇ p₈ c (λ why h. e₈ ∙ sym (seek_stays s p₇ b why h)) e in
      let s₆ : Stood p₆ = stood p₆ p₇ s₇.at (λ why h. e₇ ∙ rw h (frames_stay order s from l why)) s₇.here in
      let s₅ : Stood p₅ = stood p₅ p₆ s₆.at (λ why h. e₆ ∙ rw h (numbers_stay order 4 s n why)) s₆.here in
      let s₄ : Stood p₄ = stood p₄ p₅ s₅.at (λ why h. e₅ ∙ sym (seek_stays s p₄ a why h)) s₅.here in
      let s₃ : Stood p₃ = stood p₃ p₄ s₄.at (λ why h. e₄ ∙ rw h (numbers_stay order 4 s k why)) s₄.here in
      let at₅ = sought_at s p₄ s₅.at a (sym e₅ ∙ s₅.here) in
      let table : s₅.at.pos + 4 * n ≤ length s =
      numbers_ahead order 4 s n s₅.at s₆.at (omega (arith, at₅)) (rw s₅.here at (sym e₆ ∙ s₆.here)) in
      let quads : s₃.at.pos + 4 * k ≤ length s =
      numbers_ahead order 4 s k s₃.at s₄.at (content_within p₂ s₃.at (sym e₃ ∙ s₃.here)) (rw s₃.here at (sym e₄ ∙ s₄.here)) in
      let offsets : l ≡ numbers_at order 4 n s s₅.at.pos =
      el ∙ ap (λ (p : Place). (numbers_taken order 4 n s p).value) s₅.here ∙ ap (λ (t : Taken (List ℕ)). t.value) (numbers_here order 4 s n s₅.at table) in
      let each : EachFrame order s from s₅.at.pos n = frames_each from n s₅.at.pos p₆ s₇.at (rw offsets at (sym e₇ ∙ s₇.here)) in
      record { quads = rw s₃.here quads; table = rw s₅.here table; frames = rw s₅.here each }

  -- what it has passed, the quads that `fill_window` asks for among it
  pub found_measured : (p : Place) (body : ℕ) (c : Cursor) (t : WindowFound)
      → ◌≡◌ {A = Taken WindowFound} (window_taken order s p body) (record { value = t; then = Ok c }) → Passed order s t body
  unfolding window_taken window_of
  found_measured p body c t e =
      let h = through _ _ _ _ _ _ _ _ _ _ _ _ _ c refl refl refl refl refl refl refl (ap (λ (x : Taken WindowFound). x.then) e) in
      subst (λ (x : WindowFound). Passed order s x body) (ap (λ (x : Taken WindowFound). x.value) e)
      (record { quads = h.quads; table = h.table; frames = h.frames })

-- a table that was sought and passed has its bytes
pub table_room : (a b d : Reader) (n to : ℕ) → (b.source ≡ a.source) × (sought a.source.«data».now (Ok a.cursor) to ≡ Ok b.cursor)
    → (d.source ≡ b.source) × ((numbers_taken b.source.order 4 n b.source.«data».now (Ok b.cursor)).then ≡ Ok d.cursor)
    → b.cursor.pos + 4 * n ≤ length d.source.«data».now
table_room a b d n to h k =
    let l : length d.source.«data».now ≡ length b.source.«data».now = ap (λ (x : Source). length x.«data».now) k.0 in
    let m : length b.source.«data».now ≡ length a.source.«data».now = ap (λ (x : Source). length x.«data».now) h.0 in
    let r = sought_at a.source.«data».now (Ok a.cursor) b.cursor to h.1 in
    omega (arith, l, numbers_ahead b.source.order 4 b.source.«data».now n b.cursor d.cursor (omega (arith, m, r)) k.1)
