-- The run over a window: a turn over a frame, that a refused run stays so, and a content by its colours and its material.
use mathlib.Core.Path.{◌≡◌, refl, sym, ap}
use mathlib.Core.List.{List, [], ◌∷◌}
use Prim.Native.Nat.{ℕ, suc, ◌+◌, ◌-◌, ◌*◌, ◌≤◌, ◌<◌}
use native.Mathlib.Omega.{arith}
use Rattle.core_read.specs.Bytes.{number_at}
use Rattle.core_read.specs.Taken.{sought, number_taken, Place}
use Rattle.core_read.specs.Taken.{Taken}
use Rattle.core_read.specs.Lists.{numbers_at}
use Rattle.core_read.specs.declared.error.Refusal.{Refusal}
use Rattle.core_read.specs.declared.cursor.ByteOrder.{ByteOrder}
use Rattle.core_read.proofs.Runs.{seek_stays}
use Rattle.core_read.proofs.Lists.{numbers_stay}
use Rattle.flags.specs.Enums.{flip_number}
use Rattle.ui2d.specs.Material.{material_taken}
use Rattle.ui2d.specs.Parts.{color_taken, colors_taken}
use Rattle.ui2d.specs.declared.Color4u8.{Color4u8}
use Rattle.ui2d.specs.declared.material.Material.{Material}
use Rattle.window_read.specs.Window.{content_taken, frame_taken, frames_taken, window_taken}
use Rattle.window_head.specs.Head.{sides_taken, head_taken}
use Rattle.window_read.specs.declared.WindowContent.{WindowContent}
use Rattle.window_read.specs.declared.WindowFrame.{WindowFrame}
use Rattle.std.specs.Prelude.{Err}

-- ---- a turn over a frame, where n - i are left

module _ (order : ByteOrder) (s : List ℕ) (from table n : ℕ) where
  -- the frames that are left after i
  abbrev pub left : ℕ → Place → Taken (List ℕ)
  left i p = frames_taken order s from (numbers_at order 4 (n - i) s (table + 4 * i)) p

  pub frames_none : (i : ℕ) (p : Place) → n ≤ i → left i p ≡ record { value = []; then = p }
  unfolding frames_taken numbers_at
  frames_none i p h =
      let e : n - i ≡ 0 = omega arith in
      rw e

  pub frames_turn : (i : ℕ) (p : Place) → i < n → (f : Taken WindowFrame)
      → f ≡ frame_taken order s (sought s p (from + number_at order 4 s (table + 4 * i)))
      → left i p ≡ record {
        value = f.value.material_index ∷ flip_number f.value.texture_flip_mode ∷ (left (i + 1) f.then).value;
        then = (left (i + 1) f.then).then;
      }
  unfolding frames_taken numbers_at
  frames_turn i p h f e =
      let k : n - i ≡ suc (n - (i + 1)) = omega arith in
      let m : table + 4 * i + 4 ≡ table + 4 * (i + 1) = omega arith in
      rw (k, m, e)

-- ---- a refused run stays so

module _ (order : ByteOrder) (s : List ℕ) where
  pub head_stays : (why : Refusal) → (head_taken order s (Err why)).then ≡ Err why
  unfolding head_taken sides_taken number_taken
  head_stays why = refl

  pub content_stays : (why : Refusal) → (content_taken order s (Err why)).then ≡ Err why
  unfolding content_taken colors_taken color_taken number_taken
  content_stays why = refl

  pub frame_stays : (why : Refusal) → (frame_taken order s (Err why)).then ≡ Err why
  unfolding frame_taken number_taken
  frame_stays why = refl

  pub frames_stay : (from : ℕ) (l : List ℕ) (why : Refusal) → (frames_taken order s from l (Err why)).then ≡ Err why
  unfolding frames_taken sought
  frames_stay from [] why = refl
  frames_stay from (offset ∷ l) why = rw (frames_taken, frame_stays why) (frames_stay from l why)

  pub seek_refused : (why : Refusal) (to : ℕ) → sought s (Err why) to ≡ Err why
  seek_refused why to = sym (seek_stays s (Err why) to why refl)

  pub window_stays : (why : Refusal) (body : ℕ) → (window_taken order s (Err why) body).then ≡ Err why
  unfolding window_taken
  window_stays why body =
      rw (window_taken, head_stays, seek_refused, content_stays, numbers_stay order 4 s, seek_refused, numbers_stay order 4 s, frames_stay, seek_refused)

-- ---- a content, by its colours and its material

pub content_by : (order : ByteOrder) (s : List ℕ) (p q r : Place) (colors : List Color4u8) (m : Material)
    → ◌≡◌ {A = Taken (List Color4u8)} (colors_taken order s p) (record { value = colors; then = q })
    → ◌≡◌ {A = Taken Material} (material_taken order s q) (record { value = m; then = r })
    → ◌≡◌ {A = Taken WindowContent} (content_taken order s p) (record { value = record { vertex_colors = colors; material_index = m.index; quad_count = m.first }; then = r })
unfolding content_taken material_taken
content_by order s p q r colors m e f =
    rw e
    (ap (λ (t : Taken Material). record { value = record { vertex_colors = colors; material_index = t.value.index; quad_count = t.value.first }; then = t.then }) f)
