-- The second run: frames that are there and the first that runs out, and what the lists are after it.
use mathlib.Core.Path.{◌≡◌, refl, sym, ap, ◌∙◌}
use mathlib.Core.Bool.{Bool, true, false, cond}
use mathlib.Core.List.{List, [], ◌∷◌, ◌++◌}
use Prim.Native.Nat.{ℕ, suc, ◌+◌, ◌-◌, ◌*◌, ◌≤◌, ◌<◌}
use native.Mathlib.Omega.{arith}
use lib.Dec.{leb}
use lib.ListN.{length, take, drop, replicate, length-replicate}
use lib.Seq.{length-take-le}
use Rattle.std.proofs.lemmas.Bool.{leb-true, leb-false, le-leb, lt-leb}
use Rattle.core_read.specs.Bytes.{number_at}
use Rattle.core_read.specs.Steps.{Stands}
use Rattle.core_read.specs.Taken.{start, advanced, moved, sought, over, Place}
use Rattle.core_read.specs.Taken.{Taken}
use Rattle.core_read.specs.Lists.{numbers_at}
use Rattle.core_read.specs.declared.cursor.ByteOrder.{ByteOrder}
use Rattle.core_read.specs.declared.cursor.Cursor.{Cursor}
use Rattle.core_read.proofs.Cursors.{pos_start, pos_moved}
use Rattle.core_read.proofs.Runs.{seek_got}
use Rattle.core_read.proofs.Lists.{numbers_here, length_numbers}
use Rattle.core_read.proofs.Steps.{number_stands, after}
use Rattle.flags.specs.Enums.{flip_of, flip_number}
use Rattle.window_read.specs.Window.{frame_taken, frames_taken, window_quads, window_frames}
use Rattle.window_read.specs.declared.WindowFrame.{WindowFrame}
use Rattle.window_read.specs.declared.read.WindowFound.{WindowFound}
use Rattle.window_read.proofs.Filling.{Filling, filling_end}
use Rattle.window_read.proofs.Part.{frame_part, frame_parted, frames_blank, table_blank}
use Rattle.std.specs.Prelude.{Ok}

-- ---- frames where all of theirs is there

-- what stands at a place
abbrev pub frame_there : ByteOrder → List ℕ → ℕ → WindowFrame
frame_there order s at = record { material_index = number_at order 2 s at; texture_flip_mode = flip_of (number_at order 1 s (at + 2)) }

pub frame_stands : (order : ByteOrder) (s : List ℕ) (at : ℕ) → at + 4 ≤ length s → Stands (frame_taken order s) at 4 (frame_there order s at)
unfolding frame_taken
frame_stands order s at h = record {
  here = λ k e.
      let material = number_stands order 2 s at (omega arith) refl in
      let flip = number_stands order 1 s (at + 2) (omega arith) refl in
      let reserve = number_stands order 1 s (at + 3) (omega arith) refl in
      rw (material.here k e, after flip k 2 (omega (arith, e)), after reserve k 3 (omega (arith, e)));
}

-- all of a frame that is there
pub part_whole : (order : ByteOrder) (s : List ℕ) (at : ℕ) → at + 4 ≤ length s → frame_part order s at ≡ frame_there order s at
unfolding frame_part
part_whole order s at h = rw (le-leb (at + 2) (length s) (omega arith), le-leb (at + 3) (length s) (omega arith)) refl

-- the numbers of frames at offsets from a place, with zeros after the first that runs out
unfoldable pub frame_numbers : ByteOrder → List ℕ → ℕ → List ℕ → List ℕ
frame_numbers order s from [] = []
frame_numbers order s from (offset ∷ offsets) =
    let f : WindowFrame = frame_part order s (from + offset) in
    f.material_index ∷ flip_number f.texture_flip_mode
    ∷ cond (leb (from + offset + 4) (length s)) (frame_numbers order s from offsets) (replicate (2 * length offsets) 0)

-- two that stand at one place are one
pub stands_same : {A : Type 0} {step : Place → Taken A} {at w : ℕ} {x y : A} → Stands step at w x → Stands step at w y → x ≡ y
stands_same {at = at} h k = ap (λ t. t.value) (sym (h.here (start at) (pos_start at)) ∙ k.here (start at) (pos_start at))

frames_by : (order : ByteOrder) (s : List ℕ) (from offset : ℕ) (l : List ℕ) (c : Cursor) (t : Bool) → leb (from + offset + 4) (length s) ≡ t
    → ((d : Cursor) → (frames_taken order s from l (Ok d)).value ≡ frame_numbers order s from l)
    → (frames_taken order s from (offset ∷ l) (Ok c)).value ≡ frame_numbers order s from (offset ∷ l)
unfolding frames_taken frame_numbers
frames_by order s from offset l c true e rest =
    let to : ℕ = from + offset in
    let room : to + 4 ≤ length s = leb-true (to + 4) (length s) e in
    rw (
      e,
      part_whole order s to room,
      ← seek_got s (Ok c) to c refl (omega arith),
      (frame_stands order s to room).here (moved c to) (pos_moved c to),
      rest (advanced (moved c to) 4),
    )
frames_by order s from offset l c false e rest =
    let h = frame_parted order s (from + offset) c in
    let r = h.stops (leb-false (from + offset + 4) (length s) e) in
    rw (e, h.value, r.is, frames_blank order s from l r.why)

pub frames_stand : (order : ByteOrder) (s : List ℕ) (from : ℕ) (l : List ℕ) (c : Cursor) → (frames_taken order s from l (Ok c)).value ≡ frame_numbers order s from l
unfolding frames_taken frame_numbers
frames_stand order s from [] c = refl
frames_stand order s from (offset ∷ l) c = frames_by order s from offset l c _ refl (λ d. frames_stand order s from l d)

module _ (order : ByteOrder) (s : List ℕ) (from table n : ℕ) where
  -- the numbers that are left after i frames
  abbrev pub numbers_left : ℕ → List ℕ
  numbers_left i = frame_numbers order s from (numbers_at order 4 (n - i) s (table + 4 * i))

  pub numbers_none : (i : ℕ) → n ≤ i → numbers_left i ≡ []
  unfolding frame_numbers numbers_at
  numbers_none i h =
      let e : n - i ≡ 0 = omega arith in
      rw e

  pub numbers_turn : (i : ℕ) → i < n → (offset : ℕ) (f : WindowFrame) → offset ≡ number_at order 4 s (table + 4 * i) → from + offset + 4 ≤ length s
      → Stands (frame_taken order s) (from + offset) 4 f → numbers_left i ≡ f.material_index ∷ flip_number f.texture_flip_mode ∷ numbers_left (i + 1)
  unfolding frame_numbers numbers_at
  numbers_turn i h offset f e room st =
      let k : n - i ≡ suc (n - (i + 1)) = omega arith in
      let m : table + 4 * i + 4 ≡ table + 4 * (i + 1) = omega arith in
      let here : from + number_at order 4 s (table + 4 * i) + 4 ≤ length s = rw e at room in
      let same : f ≡ frame_part order s (from + offset) = stands_same st (frame_stands order s (from + offset) room) ∙ sym (part_whole order s (from + offset) room) in
      rw (k, m, same, e, le-leb (from + number_at order 4 s (table + 4 * i) + 4) (length s) here)

  -- and where the next one runs out
  pub numbers_cut : (i : ℕ) → i < n → (offset : ℕ) (f : WindowFrame) → offset ≡ number_at order 4 s (table + 4 * i) → length s < from + offset + 4
      → ((c : Cursor) → f ≡ (frame_taken order s (sought s (Ok c) (from + offset))).value)
      → numbers_left i ≡ f.material_index ∷ flip_number f.texture_flip_mode ∷ replicate (2 * (n - (i + 1))) 0
  unfolding frame_numbers numbers_at
  numbers_cut i h offset f e lack v =
      let k : n - i ≡ suc (n - (i + 1)) = omega arith in
      let m : table + 4 * i + 4 ≡ table + 4 * (i + 1) = omega arith in
      let here : length s < from + number_at order 4 s (table + 4 * i) + 4 = rw e at lack in
      let same : f ≡ frame_part order s (from + offset) = v (start 0) ∙ (frame_parted order s (from + offset) (start 0)).value in
      rw (k, m, same, e, lt-leb (from + number_at order 4 s (table + 4 * i) + 4) (length s) here, length_numbers order 4 (n - (i + 1)) s (table + 4 * (i + 1)))

-- ---- what the second run leaves

module _ (order : ByteOrder) (s : List ℕ) (from table n : ℕ) where
  all_left : numbers_left order s from table n 0 ≡ frame_numbers order s from (numbers_at order 4 n s table)
  all_left =
      let e : n - 0 ≡ n = omega arith in
      let f : table + 4 * 0 ≡ table = omega arith in
      rw (e, f)

  pub frames_all : (out new : List ℕ) → new ≡ over (numbers_left order s from table n 0) out
      → (c : Cursor) → new ≡ over (frames_taken order s from (numbers_at order 4 n s table) (Ok c)).value out
  frames_all out new e c = rw (frames_stand order s from (numbers_at order 4 n s table) c, ← all_left) e

  pub frames_filled : (out new : List ℕ) (i : ℕ) → n ≤ i → Filling (numbers_left order s from table n 0) out new (2 * i) (numbers_left order s from table n i)
      → (c : Cursor) → new ≡ over (frames_taken order s from (numbers_at order 4 n s table) (Ok c)).value out
  frames_filled out new i h f = frames_all out new (filling_end _ out new (2 * i) (rw (numbers_none order s from table n i h) at f))

module _ (order : ByteOrder) (s : List ℕ) (t : WindowFound) (body : ℕ) (old new : List ℕ) where
  pub quads_over : t.quads.pos + 4 * (8 * t.window.content.quad_count) ≤ length s
      → new ≡ numbers_at order 4 (8 * t.window.content.quad_count) s t.quads.pos ++ drop (8 * t.window.content.quad_count) old
      → new ≡ over (window_quads order s t) old
  unfolding window_quads
  quads_over room e =
      let n : ℕ = 8 * t.window.content.quad_count in
      let v : window_quads order s t ≡ numbers_at order 4 n s t.quads.pos = rw (window_quads, numbers_here order 4 s n t.quads room) in
      e ∙ rw (v, length_numbers order 4 n s t.quads.pos)

  pub frames_over : t.table.pos + 4 * t.window.frame_count ≤ length s
      → ((c : Cursor) → new ≡ over (frames_taken order s (body - 8) (numbers_at order 4 t.window.frame_count s t.table.pos) (Ok c)).value old)
      → new ≡ over (window_frames order s t body) old
  unfolding window_frames
  frames_over room e = rw (window_frames, numbers_here order 4 s t.window.frame_count t.table room) (e (advanced t.table (4 * t.window.frame_count)))

  pub frames_none : (k : ℕ) → length s < t.table.pos + 4 * t.window.frame_count → k ≡ 2 * t.window.frame_count → k ≤ length old
      → new ≡ replicate (length (take k old)) 0 → new ++ drop k old ≡ over (window_frames order s t body) old
  unfolding window_frames
  frames_none k lack e room z =
      let v : window_frames order s t body ≡ replicate (2 * t.window.frame_count) 0 = table_blank order s (body - 8) t.window.frame_count t.table lack in
      rw (z, length-take-le k old room, v, e, length-replicate {A = ℕ} (2 * t.window.frame_count) 0)
