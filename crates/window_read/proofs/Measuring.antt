-- The loop that measures frames.
use mathlib.Core.Path.{◌≡◌, refl, sym, ap, ◌∙◌, subst}
use mathlib.Core.List.{List}
use Prim.Native.Nat.{ℕ, ◌+◌, ◌-◌, ◌*◌, ◌≤◌, ◌<◌}
use native.Mathlib.Omega.{arith}
use lib.ListN.{length}
use Rattle.core_read.specs.Bytes.{number_at}
use Rattle.core_read.specs.Steps.{Took}
use Rattle.core_read.specs.Taken.{advanced, sought, number_taken, Place}
use Rattle.core_read.specs.Taken.{Taken}
use Rattle.core_read.specs.Lists.{numbers_taken}
use Rattle.core_read.specs.declared.error.Refusal.{Refusal}
use Rattle.core_read.specs.declared.cursor.ByteOrder.{ByteOrder}
use Rattle.core_read.specs.declared.cursor.Cursor.{Cursor}
use Rattle.core_read.proofs.Cursors.{pos_advanced}
use Rattle.core_read.specs.declared.reader.Reader.{Reader}
use Rattle.core_read.specs.declared.reader.Source.{Source}
use Rattle.core_read.proofs.Lists.{number_here, numbers_here}
use Rattle.window_read.specs.Window.{frame_taken, frames_taken}
use Rattle.window_read.specs.declared.WindowFrame.{WindowFrame}
use Rattle.std.specs.Prelude.{Err, Ok}
use Rattle.window_read.proofs.Run.{left, frames_turn, frame_stays, frames_stay}
use Rattle.window_read.proofs.Through.{IsAt, at_same}

-- ---- a turn of the loop that measures frames

-- steps of readers, in the words of the source that they all have
module _ (s : Source) (a b : Reader) (e : a.source ≡ s) where
  pub offset_of : (v : ℕ) → Took a b (Ok v) (λ order l p. number_taken order 4 l p)
      → (b.source ≡ s) × (◌≡◌ {A = Taken ℕ} (number_taken s.order 4 s.«data».now (Ok a.cursor)) (record { value = v; then = Ok b.cursor }))
  offset_of v h =
      (h.0 ∙ e, subst (λ (x : Source). ◌≡◌ {A = Taken ℕ} (number_taken x.order 4 x.«data».now (Ok a.cursor)) (record { value = v; then = Ok b.cursor })) e h.1)

  pub offset_err : (why : Refusal) → (number_taken a.source.order 4 a.source.«data».now (Ok a.cursor)).then ≡ Err why → (number_taken s.order 4 s.«data».now (Ok a.cursor)).then ≡ Err why
  offset_err why h = subst (λ (x : Source). (number_taken x.order 4 x.«data».now (Ok a.cursor)).then ≡ Err why) e h

  pub seek_of : (to : ℕ) → (b.source ≡ a.source) × (sought a.source.«data».now (Ok a.cursor) to ≡ Ok b.cursor)
      → (b.source ≡ s) × (sought s.«data».now (Ok a.cursor) to ≡ Ok b.cursor)
  seek_of to h = (h.0 ∙ e, subst (λ (x : Source). sought x.«data».now (Ok a.cursor) to ≡ Ok b.cursor) e h.1)

  pub seek_err : (to : ℕ) (why : Refusal) → sought a.source.«data».now (Ok a.cursor) to ≡ Err why → sought s.«data».now (Ok a.cursor) to ≡ Err why
  seek_err to why h = subst (λ (x : Source). sought x.«data».now (Ok a.cursor) to ≡ Err why) e h

  pub frame_of : (f : WindowFrame) → Took a b (Ok f) frame_taken
      → (b.source ≡ s) × (◌≡◌ {A = Taken WindowFrame} (frame_taken s.order s.«data».now (Ok a.cursor)) (record { value = f; then = Ok b.cursor }))
  frame_of f h =
      (h.0 ∙ e, subst (λ (x : Source). ◌≡◌ {A = Taken WindowFrame} (frame_taken x.order x.«data».now (Ok a.cursor)) (record { value = f; then = Ok b.cursor })) e h.1)

  pub frame_err : (why : Refusal) → (frame_taken a.source.order a.source.«data».now (Ok a.cursor)).then ≡ Err why → (frame_taken s.order s.«data».now (Ok a.cursor)).then ≡ Err why
  frame_err why h = subst (λ (x : Source). (frame_taken x.order x.«data».now (Ok a.cursor)).then ≡ Err why) e h

module _ (order : ByteOrder) (s : List ℕ) (from table n i : ℕ) (h : i < n) (room : table + 4 * n ≤ length s) (t : Cursor) (e : t.pos ≡ table + 4 * i) where
  offset_here : ◌≡◌ {A = Taken ℕ} (number_taken order 4 s (Ok t)) (record { value = number_at order 4 s t.pos; then = Ok (advanced t 4) })
  offset_here = number_here order 4 s t (omega arith)

  pub offset_there : (why : Refusal) → (number_taken order 4 s (Ok t)).then ≡ Err why → ⊥
  offset_there why k = subst IsAt (sym (ap (λ (x : Taken ℕ). x.then) offset_here) ∙ k) tt

  module _ (v : ℕ) (d : Cursor) (k : ◌≡◌ {A = Taken ℕ} (number_taken order 4 s (Ok t)) (record { value = v; then = Ok d })) where
    pub offset_next : d.pos ≡ table + 4 * (i + 1)
    offset_next =
        let same : d ≡ advanced t 4 = at_same d (advanced t 4) (sym (ap (λ (x : Taken ℕ). x.then) k) ∙ ap (λ (x : Taken ℕ). x.then) offset_here) in
        omega (arith, e, ap (λ (x : Cursor). x.pos) same, pos_advanced t 4)

    offset_is : v ≡ number_at order 4 s (table + 4 * i)
    offset_is = sym (ap (λ (x : Taken ℕ). x.value) k) ∙ ap (λ (x : Taken ℕ). x.value) offset_here ∙ ap (number_at order 4 s) e

    -- the frame that is read next
    turn : (c : Cursor) (q : Place) → sought s (Ok c) (from + v) ≡ q → (left order s from table n i (Ok c)).then ≡ (left order s from table n (i + 1) (frame_taken order s q).then).then
    turn c q g =
        let m : frame_taken order s q ≡ frame_taken order s (sought s (Ok c) (from + number_at order 4 s (table + 4 * i))) = rw (← offset_is, g) in
        ap (λ (x : Taken (List ℕ)). x.then) (frames_turn order s from table n i (Ok c) h (frame_taken order s q) m)

    pub seek_stops : (c : Cursor) (why : Refusal) → sought s (Ok c) (from + v) ≡ Err why → (left order s from table n i (Ok c)).then ≡ Err why
    seek_stops c why g = turn c (Err why) g ∙ rw (frame_stays order s why) (frames_stay order s from _ why)

    pub frame_stops : (c d : Cursor) (why : Refusal) → sought s (Ok c) (from + v) ≡ Ok d → (frame_taken order s (Ok d)).then ≡ Err why
        → (left order s from table n i (Ok c)).then ≡ Err why
    frame_stops c d why g f = turn c (Ok d) g ∙ rw f (frames_stay order s from _ why)

    pub frame_passed : (c d e : Cursor) (f : WindowFrame) → sought s (Ok c) (from + v) ≡ Ok d
        → ◌≡◌ {A = Taken WindowFrame} (frame_taken order s (Ok d)) (record { value = f; then = Ok e })
        → (left order s from table n i (Ok c)).then ≡ (left order s from table n (i + 1) (Ok e)).then
    frame_passed c d e f g k = turn c (Ok d) g ∙ rw k refl

-- ---- where the loop begins and ends, in the words of the table's numbers

module _ (order : ByteOrder) (s : List ℕ) (from n : ℕ) (table : Cursor) (room : table.pos + 4 * n ≤ length s) where
  pub left_first : (p : Place) → left order s from table.pos n 0 p ≡ frames_taken order s from (numbers_taken order 4 n s (Ok table)).value p
  left_first p =
      let e : n - 0 ≡ n = omega arith in
      let f : table.pos + 4 * 0 ≡ table.pos = omega arith in
      rw (e, f, numbers_here order 4 s n table room)
