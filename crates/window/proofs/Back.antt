-- A window that a write lets through is read back, anywhere in a buffer.
use Rattle.core_read.specs.Taken.{cursor_of}
use mathlib.Core.Path.{◌≡◌, refl, ap, ◌∙◌, subst}
use Prim.Native.Nat.{ℕ, zero, suc, ◌+◌, ◌-◌, ◌*◌, ◌/◌, ◌%◌, ◌^◌, ◌≤◌, ◌<◌}
use native.Mathlib.Nat.{add-zero, add_assoc}
use native.Mathlib.Omega.{arith}
use mathlib.Core.List.{List}
use lib.ListN.{length, replicate, length-replicate}
use Rattle.core_read.specs.Bytes.{bytes_of_all}
use Rattle.core_read.specs.Taken.{advanced, moved, sought, Place}
use Rattle.core_read.specs.Taken.{Taken}
use Rattle.core_read.specs.Lists.{numbers_taken}
use Rattle.core_read.specs.declared.cursor.ByteOrder.{ByteOrder}
use Rattle.core_read.specs.declared.cursor.Cursor.{Cursor}
use Rattle.core_read.proofs.Cursors.{pos_advanced, pos_moved, advanced_zero, reach_moved, reach_level}
use Rattle.core_read.proofs.Runs.{seek_to, seek_here}
use Rattle.core_read.proofs.Back.{Holds, Fit, holds_fits, length_all, cut, numbers_back}
use Rattle.core_write.proofs.Padding.{padding_small, padding_none}
use Rattle.window_read.specs.Window.{content_taken, frames_taken, window_of, window_taken, window_quads, window_frames}
use Rattle.window_head.specs.Head.{head_taken}
use Rattle.window_write.specs.Write.{GoodWindow, content_padding, table_offset, window_length, encode_head, encode_content, frame_offsets, encode_frames, encode_window}
use Rattle.window.specs.Same.{SameWindow}
use Rattle.window_read.specs.Typed.{TypedWindow}
use Rattle.window_read.specs.declared.WindowContent.{WindowContent}
use Rattle.window_read.specs.declared.WindowPane.{WindowPane}
use Rattle.window_read.specs.declared.read.WindowFound.{WindowFound}
use Rattle.window.proofs.Lengths.{length_offsets, length_head, length_content}
use Rattle.window.proofs.Fields.{read_back_content, frames_fit, head_of, numbers_at_lem, head_at, content_at, frames_at}
use Rattle.ui2d.proofs.QuadRuns.{count_fit, eight}
use Rattle.std.specs.Prelude.{Ok}
use Rattle.window_head.specs.declared.WindowHead.{WindowHead}

-- what reading a window that was written gives: the same, with the counts of its lists
unfoldable pub read_back_window : WindowPane → List ℕ → List ℕ → WindowPane
read_back_window x quads frames = record {
  inflation_left = x.inflation_left;
  inflation_right = x.inflation_right;
  inflation_top = x.inflation_top;
  inflation_bottom = x.inflation_bottom;
  frame_size_left = x.frame_size_left;
  frame_size_right = x.frame_size_right;
  frame_size_top = x.frame_size_top;
  frame_size_bottom = x.frame_size_bottom;
  flag = x.flag;
  frame_count = length frames / 2;
  content = read_back_content x.content quads;
}

pub read_same : (x : WindowPane) (quads frames : List ℕ) → SameWindow (read_back_window x quads frames) quads frames x quads frames
unfolding read_back_window read_back_content
read_same x quads frames = record {
  inflation_left = refl;
  inflation_right = refl;
  inflation_top = refl;
  inflation_bottom = refl;
  frame_size_left = refl;
  frame_size_right = refl;
  frame_size_top = refl;
  frame_size_bottom = refl;
  flag = refl;
  colors = refl;
  material = refl;
  quads = refl;
  frames = refl;
}

-- ---- the whole

-- the steps of a read, as far as they are known
window_run : (order : ByteOrder) (s : List ℕ) (p : Place) (body : ℕ) (head : Taken WindowHead) (content : Taken WindowContent) (quads table frames : Taken (List ℕ)) (toContent to_table end : Place)
    → head_taken order s p ≡ head → sought s head.then (body - 8 + head.value.content_offset) ≡ toContent → content_taken order s toContent ≡ content
    → numbers_taken order 4 (8 * content.value.quad_count) s content.then ≡ quads → sought s quads.then (body - 8 + head.value.table_offset) ≡ to_table
    → numbers_taken order 4 head.value.frame_count s to_table ≡ table → frames_taken order s (body - 8) table.value table.then ≡ frames
    → sought s frames.then (body + 104) ≡ end
    → window_taken order s p body ≡ record {
      value = record { window = window_of head.value content.value; quads = cursor_of content.then; table = cursor_of to_table };
      then = end;
    }
unfolding window_taken
window_run order s p body head content quads table frames toContent to_table end e₁ e₂ e₃ e₄ e₅ e₆ e₇ e₈ = rw (e₁, e₂, e₃, e₄, e₅, e₆, e₇, e₈)

-- every offset is small
small : (body q f : ℕ) → q ≤ 2040 → f ≤ 510 → table_offset body q + 4 * (f / 2) + 4 * (f / 2) < 256 ^ 4
unfolding table_offset content_padding
small body q f h k = omega (arith, padding_small (body + 124 + 4 * q))

table_at : {s : List ℕ} (d : Cursor) (order : ByteOrder) (a n : ℕ) → Fit 4 (frame_offsets a n) → Holds s d.pos (bytes_of_all order 4 (frame_offsets a n))
    → ◌≡◌ {A = Taken (List ℕ)} (numbers_taken order 4 n s (Ok d)) (record { value = frame_offsets a n; then = Ok (advanced d (4 * n)) })
table_at {s} d order a n f h =
    subst (λ (m : ℕ). ◌≡◌ {A = Taken (List ℕ)} (numbers_taken order 4 m s (Ok d)) (record { value = frame_offsets a n; then = Ok (advanced d (4 * m)) }))
    (length_offsets a n) (numbers_back d order 4 (frame_offsets a n) f h)

offsets_fit : (a n : ℕ) → a + 4 * n < 256 ^ 4 → Fit 4 (frame_offsets a n)
unfolding frame_offsets Fit
offsets_fit a zero h = tt
offsets_fit a (suc n) h = (omega arith, offsets_fit (a + 4) n (omega arith))

-- where the parts of a window stand, from the place after the base on
abbrev pub table_place : ℕ → ℕ → ℕ
table_place body q = 28 + (20 + 4 * q) + content_padding body q

abbrev pub frames_place : ℕ → ℕ → ℕ → ℕ
frames_place body q f = table_place body q + 4 * (f / 2)

-- the cursor at the table, which is sought from the end of the quads: the padding between them is not read
abbrev pub at_table : Cursor → ℕ → ℕ → Cursor
at_table c body q = moved (advanced c (48 + 4 * q)) (c.pos + table_place body q)

-- and after the whole, back at the end of the fixed bytes
abbrev pub after_window : Cursor → ℕ → ℕ → ℕ → Cursor
after_window c body q f = moved (advanced (at_table c body q) (4 * (f / 2) + 4 * (f / 2))) (body + 104)

-- it has looked at all that was written of a body at a multiple of 4, where nothing is padded
pub reach_window : (c : Cursor) (body q f : ℕ) → c.reach ≡ c.pos → c.pos ≡ body + 76 → body % 4 ≡ 0
    → (after_window c body q f).reach ≡ body + 76 + window_length body q f
unfolding window_length content_padding
reach_window c body q f level here whole =
    let n : ℕ = 4 * (f / 2) + 4 * (f / 2) in
    let d : Cursor = at_table c body q in
    let none = padding_none (body + 124 + 4 * q) (omega arith) in
    let p = pos_moved (advanced c (48 + 4 * q)) (c.pos + table_place body q) in
    let r = reach_moved (advanced c (48 + 4 * q)) (c.pos + table_place body q) ∙ reach_level c level (48 + 4 * q) in
    reach_moved (advanced d n) (body + 104) ∙ reach_level d (omega (arith, none, p, r)) n ∙ omega (arith, none, p, here)

record Parts (s : List ℕ) (c : Cursor) (order : ByteOrder) (body : ℕ) (x : WindowPane) (q f : List ℕ) : Type 0 where
  head : Holds s (c.pos + 0) (encode_head order x (length f / 2) (table_offset body (length q)))
  content : Holds s (c.pos + 28) (encode_content order x.content q)
  table : Holds s (c.pos + table_place body (length q)) (bytes_of_all order 4 (frame_offsets (table_offset body (length q) + 4 * (length f / 2)) (length f / 2)))
  frames : Holds s (c.pos + frames_place body (length q) (length f)) (encode_frames order f)

parts : {s : List ℕ} (c : Cursor) (order : ByteOrder) (body : ℕ) (x : WindowPane) (quads frames : List ℕ) → TypedWindow x
    → Holds s c.pos (encode_window order body x quads frames) → Parts s c order body x quads frames
unfolding encode_window
parts {s} c order body x quads frames t a =
    let n = length frames / 2 in
    let pad = content_padding body (length quads) in
    let first = table_offset body (length quads) + 4 * n in
    let a₀ : Holds s (c.pos + 0) (encode_window order body x quads frames) = rw (add-zero c.pos) a in
    let l : length (bytes_of_all order 4 (frame_offsets first n)) ≡ 4 * n = length_all order 4 (frame_offsets first n) ∙ ap (λ (m : ℕ). 4 * m) (length_offsets first n) in
    let (a₁, r₁) = cut c 0 28 _ _ (length_head order x n (table_offset body (length quads))) a₀ in
    let (a₂, r₂) = cut c 28 (20 + 4 * length quads) _ _ (length_content order x.content quads t.colors.four) r₁ in
    let (a₃, r₃) = cut c (28 + (20 + 4 * length quads)) pad (replicate pad 0) _ (length-replicate {A = ℕ} pad 0) r₂ in
    let (a₄, a₅) = cut c (28 + (20 + 4 * length quads) + pad) (4 * n) _ _ l r₃ in
    record { head = a₁; content = a₂; table = a₄; frames = a₅ }

module _ {s : List ℕ} (c : Cursor) (order : ByteOrder) (body : ℕ) (x : WindowPane) (quads frames : List ℕ)
    (t : TypedWindow x) (g : GoodWindow quads frames) (fq : Fit 4 quads) (ff : Fit 2 frames) (low : 8 ≤ body) (here : c.pos ≡ body + 76)
    (a : Holds s c.pos (encode_window order body x quads frames)) where
  at_parts : Parts s c order body x quads frames
  at_parts = parts c order body x quads frames t a

  content_here : ◌≡◌ {A = Taken WindowContent} (content_taken order s (Ok (advanced c 28))) (record { value = read_back_content x.content quads; then = Ok (advanced c 48) })
      × Holds s (c.pos + 48) (bytes_of_all order 4 quads)
  content_here =
      content_at c order x.content quads (record { colors = t.colors; material = t.material }) (count_fit (length quads) g.most_quads) at_parts.content

  quads_here : ◌≡◌ {A = Taken (List ℕ)} (numbers_taken order 4 (8 * (length quads / 8)) s (Ok (advanced c 48)))
      (record { value = quads; then = Ok (advanced c (48 + 4 * length quads)) })
  quads_here = rw (eight (length quads) g.whole_quads) (numbers_at_lem c order 48 4 quads fq content_here.1)

  table_here : ◌≡◌ {A = Taken (List ℕ)} (numbers_taken order 4 (length frames / 2) s (Ok (at_table c body (length quads))))
      (record {
        value = frame_offsets (table_offset body (length quads) + 4 * (length frames / 2)) (length frames / 2);
        then = Ok (advanced (at_table c body (length quads)) (4 * (length frames / 2)));
      })
  unfolding table_offset
  table_here =
      let m = length frames / 2 in
      let first = table_offset body (length quads) + 4 * m in
      let f : Fit 4 (frame_offsets first m) = offsets_fit first m (small body (length quads) (length frames) g.most_quads g.most_frames) in
      table_at (at_table c body (length quads)) order first m f (rw pos_moved at_parts.table)

  frames_here : ◌≡◌ {A = Taken (List ℕ)}
      (frames_taken order s (body - 8) (frame_offsets (table_offset body (length quads) + 4 * (length frames / 2)) (length frames / 2)) (Ok (advanced (at_table c body (length quads)) (4 * (length frames / 2)))))
      (record { value = frames; then = Ok (advanced (at_table c body (length quads)) (4 * (length frames / 2) + 4 * (length frames / 2))) })
  unfolding table_offset
  frames_here =
      let m = length frames / 2 in
      let d = at_table c body (length quads) in
      let e = pos_moved (advanced c (48 + 4 * length quads)) (c.pos + table_place body (length quads)) in
      let h : Holds s (d.pos + 4 * m) (encode_frames order frames) = rw (e, add_assoc) at_parts.frames in
      frames_at d order (4 * m) (body - 8) (table_offset body (length quads) + 4 * m) frames (omega (arith, e, here, low)) ff g.flips g.whole_frames h

  -- THE WINDOW
  pub window_back : ◌≡◌ {A = Taken WindowFound} (window_taken order s (Ok c) body) (record {
    value = record { window = read_back_window x quads frames; quads = advanced c 48; table = at_table c body (length quads) };
    then = Ok (after_window c body (length quads) (length frames));
  })
  unfolding window_of read_back_window read_back_content table_offset
  window_back =
      let m = length frames / 2 in
      let k = table_place body (length quads) in
      let d = at_table c body (length quads) in
      let end = holds_fits _ at_parts.frames in
      let fit : table_offset body (length quads) + 4 * m + 4 * m < 256 ^ 4 = small body (length quads) (length frames) g.most_quads g.most_frames in
      window_run order s (Ok c) body (record { value = head_of x m (table_offset body (length quads)); then = Ok (advanced c 28) })
      (record { value = read_back_content x.content quads; then = Ok (advanced c 48) })
      (record { value = quads; then = Ok (advanced c (48 + 4 * length quads)) })
      (record { value = frame_offsets (table_offset body (length quads) + 4 * m) m; then = Ok (advanced d (4 * m)) })
      (record { value = frames; then = Ok (advanced d (4 * m + 4 * m)) })
      (Ok (advanced c 28))
      (Ok d)
      (Ok (after_window c body (length quads) (length frames)))
      (rw (advanced_zero c) at (head_at c order x m (table_offset body (length quads)) t (frames_fit (length frames) g.most_frames) (omega (arith, fit)) at_parts.head))
      (seek_here s (advanced c 28) (body - 8 + 112) (omega (arith, pos_advanced c 28, here, low)) (omega (arith, pos_advanced c 28, end)))
      content_here.0
      quads_here
      (seek_to s (advanced c (48 + 4 * length quads)) (body - 8 + table_offset body (length quads)) (c.pos + k) (omega (arith, here, low)) (omega (arith, end)))
      table_here
      frames_here
      (seek_to s (advanced d (4 * m + 4 * m)) (body + 104) (body + 104) refl (omega (arith, here, end)))

  -- the numbers of its lists
  pub quads_back : window_quads order s (window_taken order s (Ok c) body).value ≡ quads
  unfolding window_quads read_back_window read_back_content
  quads_back = ap (λ (w : Taken WindowFound). window_quads order s w.value) window_back ∙ ap (λ (r : Taken (List ℕ)). r.value) quads_here

  pub frames_back : window_frames order s (window_taken order s (Ok c) body).value body ≡ frames
  unfolding window_frames read_back_window
  frames_back =
      ap (λ (w : Taken WindowFound). window_frames order s w.value body) window_back
      ∙ ap (λ (r : Taken (List ℕ)). (frames_taken order s (body - 8) r.value r.then).value) table_here
      ∙ ap (λ (r : Taken (List ℕ)). r.value) frames_here

  -- what was read is equal to what was written
  pub same_back : SameWindow (window_taken order s (Ok c) body).value.window (window_quads order s (window_taken order s (Ok c) body).value) (window_frames order s (window_taken order s (Ok c) body).value body) x quads frames
  same_back = rw (quads_back, frames_back, window_back) (read_same x quads frames)
