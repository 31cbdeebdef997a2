-- How many bytes a window's parts have.
use mathlib.Core.Path.{◌≡◌, refl, ap}
use Prim.Native.Nat.{ℕ, zero, suc, ◌+◌, ◌*◌, ◌/◌}
use native.Mathlib.Omega.{arith}
use mathlib.Core.List.{List, [], ◌∷◌}
use lib.ListN.{length, length-append, length-replicate}
use lib.IntN.{ℤ}
use Rattle.core_read.specs.declared.cursor.ByteOrder.{ByteOrder}
use Rattle.core_read.proofs.Numbers.{length_bytes}
use Rattle.core_read.proofs.Back.{length_all}
use Rattle.ui2d.proofs.Colors.{length_colors}
use Rattle.window_write.specs.Write.{window_length, encode_sides, encode_borders, encode_head, encode_content, frame_offsets, encode_frame, encode_frames, encode_window}
use Rattle.pane_read.specs.Pane.{Sound}
use Rattle.pane_read.specs.declared.Pane.{Pane}
use Rattle.pane.proofs.Back.{length_pane}
use Rattle.window.specs.Body.{body_length, encode_body}
use Rattle.window_read.specs.declared.WindowContent.{WindowContent}
use Rattle.window_read.specs.declared.WindowPane.{WindowPane}

pub length_offsets : (first n : ℕ) → length (frame_offsets first n) ≡ n
unfolding frame_offsets
length_offsets first zero = refl
length_offsets first (suc n) = ap suc (length_offsets (first + 4) n)

module _ (order : ByteOrder) where
  pub length_sides : (l r t b : ℤ) → length (encode_sides order l r t b) ≡ 8
  unfolding encode_sides
  length_sides l r t b = simp (length-append, length_bytes)

  pub length_borders : (x : WindowPane) → length (encode_borders order x) ≡ 16
  unfolding encode_borders
  length_borders x = simp (length-append, length_sides)

  pub length_head : (x : WindowPane) (n table : ℕ) → length (encode_head order x n table) ≡ 28
  unfolding encode_head
  length_head x n table = simp (length-append, length_bytes, length_borders)

  pub length_content : (x : WindowContent) (quads : List ℕ) → length x.vertex_colors ≡ 4 → length (encode_content order x quads) ≡ 20 + 4 * length quads
  unfolding encode_content
  length_content x quads h = simp (length-append, length_bytes, length_all, length_colors order x.vertex_colors h) (omega arith)

  pub length_frame : (material flip : ℕ) → length (encode_frame order material flip) ≡ 4
  unfolding encode_frame
  length_frame material flip = simp (length-append, length_bytes)

  pub length_frames : (l : List ℕ) → length (encode_frames order l) ≡ 4 * (length l / 2)
  unfolding encode_frames
  length_frames [] = refl
  length_frames (material ∷ []) = refl
  length_frames (material ∷ flip ∷ l) = simp (length-append, length_frame, length_frames l) (omega arith)

  pub length_window : (body : ℕ) (x : WindowPane) (quads frames : List ℕ) → length x.content.vertex_colors ≡ 4
      → length (encode_window order body x quads frames) ≡ window_length body (length quads) (length frames)
  unfolding encode_window window_length
  length_window body x quads frames h =
      simp (length-append, length_head, length_content x.content quads h, length-replicate, length_all, length_offsets, length_frames) (omega arith)

  pub length_body : (body : ℕ) (b : Pane) (x : WindowPane) (quads frames : List ℕ) → Sound b → length x.content.vertex_colors ≡ 4
      → length (encode_body order body b x quads frames) ≡ body_length body quads frames
  unfolding encode_body body_length
  length_body body b x quads frames h k = rw (length-append, length_pane order b h, length_window body x quads frames k)
