-- Document 01's windows, as the bytes of the body write in either order of bytes: any base with its names within their widths, any window.
-- Offsets count from B − 8, so what has the offset k stands at k − 8 of the body.
use mathlib.Core.Path.{◌≡◌, ap, ◌∙◌, subst}
use mathlib.Core.List.{List, [], ◌++◌}
use Prim.Native.Nat.{ℕ, ◌+◌, ◌-◌, ◌*◌, ◌/◌, ◌^◌, ◌<◌}
use native.Mathlib.Omega.{arith}
use lib.ListN.{length, replicate, length-replicate}
use Rattle.core_read.specs.Bytes.{bytes_of, bytes_of_all, part, number_at, padding}
use Rattle.core_read.specs.declared.cursor.ByteOrder.{ByteOrder}
use Rattle.core_read.proofs.Numbers.{length_bytes}
use Rattle.core_read.proofs.Back.{Holds, holds_whole, holds_left, holds_right, split, holds_part, number_stands, length_all}
use Rattle.flags.specs.Fields.{window_flags_number}
use Rattle.pane_read.specs.Pane.{encode_pane, Sound}
use Rattle.pane_read.specs.declared.Pane.{Pane}
use Rattle.pane.proofs.Back.{length_pane}
use Rattle.window_read.specs.declared.WindowPane.{WindowPane}
use Rattle.window_write.specs.Write.{content_padding, table_offset, window_length, encode_borders, encode_head, encode_content, frame_offsets, encode_frames, encode_window}
use Rattle.window.specs.Body.{body_length, encode_body}
use Rattle.window.proofs.Lengths.{length_offsets, length_borders, length_head, length_content, length_frames, length_body}

-- at 8, one quad, two frames: 172 bytes, table at 164, frames at 172 and 176
pub record At8 (order : ByteOrder) (frames s : List ℕ) : Type 0 where
  pub bytes : length s ≡ 172
  pub content : number_at order 4 s 96 ≡ 112
  pub table : number_at order 4 s 100 ≡ 164
  pub first : number_at order 4 s (164 - 8) ≡ 172
  pub second : number_at order 4 s (164 - 8 + 4) ≡ 176
  pub both : part 8 s (172 - 8) ≡ encode_frames order frames

-- at 9, none of either: 127 bytes, table at 135
pub record At9 (order : ByteOrder) (s : List ℕ) : Type 0 where
  pub bytes : length s ≡ 127
  pub content : number_at order 4 s 96 ≡ 112
  pub table : number_at order 4 s 100 ≡ 135

-- the parts of a window that has n frames and its table at the offset t
record Laid (order : ByteOrder) (s : List ℕ) (t n : ℕ) (frames : List ℕ) : Type 0 where
  content : number_at order 4 s 96 ≡ 112
  offset : t < 256 ^ 4 → number_at order 4 s 100 ≡ t
  table : Holds s (t - 8) (bytes_of_all order 4 (frame_offsets (t + 4 * n) n))
  both : Holds s (t - 8 + 4 * n) (encode_frames order frames)

module _ (order : ByteOrder) (b : Pane) (x : WindowPane) (sound : Sound b) (four : length x.content.vertex_colors ≡ 4) where
  -- the two offsets in the head
  offsets : {s : List ℕ} (n t : ℕ) → Holds s 76 (encode_head order x n t) → Holds s 96 (bytes_of order 4 112) × Holds s 100 (bytes_of order 4 t)
  unfolding encode_head
  offsets n t a =
      let r₁ = holds_right (encode_borders order x) _ 16 (length_borders order x) a in
      let r₂ = holds_right (bytes_of order 1 n) _ 1 (length_bytes order 1 n) r₁ in
      let r₃ = holds_right (bytes_of order 1 (window_flags_number x.flag)) _ 1 (length_bytes order 1 _) r₂ in
      let r₄ = holds_right (bytes_of order 2 0) _ 2 (length_bytes order 2 0) r₃ in
      split (bytes_of order 4 112) (bytes_of order 4 t) 4 (length_bytes order 4 112) r₄

  laid : (body : ℕ) (quads frames : List ℕ) → Laid order (encode_body order body b x quads frames) (table_offset body (length quads)) (length frames / 2) frames
  unfolding encode_body encode_window table_offset
  laid body quads frames =
      let s : List ℕ = encode_body order body b x quads frames in
      let n : ℕ = length frames / 2 in
      let t : ℕ = table_offset body (length quads) in
      let pad : ℕ = content_padding body (length quads) in
      let l : length (bytes_of_all order 4 (frame_offsets (t + 4 * n) n)) ≡ 4 * n = length_all order 4 (frame_offsets (t + 4 * n) n) ∙ ap (λ (m : ℕ). 4 * m) (length_offsets (t + 4 * n) n) in
      let own = holds_right (encode_pane order b) _ 76 (length_pane order b sound) (holds_whole s) in
      let (head, r₁) = split (encode_head order x n t) _ 28 (length_head order x n t) own in
      let r₂ = holds_right (encode_content order x.content quads) _ (20 + 4 * length quads) (length_content order x.content quads four) r₁ in
      let r₃ = holds_right (replicate pad 0) _ pad (length-replicate pad 0) r₂ in
      let e : 76 + 28 + (20 + 4 * length quads) + pad ≡ t - 8 = omega arith in
      let r₄ = subst (λ (k : ℕ). Holds s k (bytes_of_all order 4 (frame_offsets (t + 4 * n) n) ++ encode_frames order frames)) e r₃ in
      let (table, last) = split (bytes_of_all order 4 (frame_offsets (t + 4 * n) n)) (encode_frames order frames) (4 * n) l r₄ in
      let (content, offset) = offsets n t head in
      record {
        content = number_stands order 4 112 (omega arith) content;
        offset = λ h. number_stands order 4 t h offset;
        table = table;
        both = last;
      }

  -- of one quad and two frames
  laid_at_8 : (quads frames : List ℕ) → length quads ≡ 8 → length frames ≡ 4 → Laid order (encode_body order 8 b x quads frames) 164 2 frames
  unfolding table_offset content_padding padding
  laid_at_8 quads frames q f =
      subst (λ (k : ℕ). Laid order (encode_body order 8 b x quads frames) (table_offset 8 k) 2 frames) q
      (subst (λ (k : ℕ). Laid order (encode_body order 8 b x quads frames) (table_offset 8 (length quads)) (k / 2) frames) f (laid 8 quads frames))

  length_at_8 : (quads frames : List ℕ) → length quads ≡ 8 → length frames ≡ 4 → body_length 8 quads frames ≡ 172
  unfolding body_length window_length content_padding padding
  length_at_8 quads frames q f = rw (q, f)

  pub window_at_8 : (quads frames : List ℕ) → length quads ≡ 8 → length frames ≡ 4 → At8 order frames (encode_body order 8 b x quads frames)
  unfolding bytes_of_all frame_offsets
  window_at_8 quads frames q f =
      let l = laid_at_8 quads frames q f in
      let (first, rest) = split (bytes_of order 4 172) (bytes_of order 4 176 ++ []) 4 (length_bytes order 4 172) l.table in
      record {
        bytes = length_body order 8 b x quads frames sound four ∙ length_at_8 quads frames q f;
        content = l.content;
        table = l.offset (omega arith);
        first = number_stands order 4 172 (omega arith) first;
        second = number_stands order 4 176 (omega arith) (holds_left (bytes_of order 4 176) [] rest);
        both = holds_part (encode_frames order frames) 8 (length_frames order frames ∙ ap (λ (k : ℕ). 4 * (k / 2)) f) l.both;
      }

  pub window_at_9 : At9 order (encode_body order 9 b x [] [])
  unfolding body_length window_length table_offset content_padding padding
  window_at_9 =
      let l = laid 9 [] [] in
      record { bytes = length_body order 9 b x [] [] sound four; content = l.content; table = l.offset (omega arith) }
