-- Equality of windows: equal ones have equal bytes, and two that are equal to a third are equal. What is written depends on the place modulo 4 alone.
use mathlib.Core.Path.{◌≡◌, sym, ap, ◌∙◌}
use Prim.Native.Nat.{ℕ, ◌+◌, ◌*◌, ◌%◌}
use native.Mathlib.Omega.{arith}
use mathlib.Core.List.{List}
use lib.ListN.{length}
use Rattle.core_read.specs.Bytes.{padding}
use Rattle.core_read.specs.declared.cursor.ByteOrder.{ByteOrder}
use Rattle.core_write.proofs.Padding.{padding_shift}
use Rattle.window_write.specs.Write.{content_padding, table_offset, window_length, encode_borders, encode_head, encode_content, encode_window}
use Rattle.pane_read.specs.declared.Pane.{Pane}
use Rattle.window.specs.Body.{body_length, encode_body}
use Rattle.window.specs.Same.{SameWindow}
use Rattle.window_read.specs.declared.WindowPane.{WindowPane}

module _ (a : WindowPane) (q f : List ℕ) (b : WindowPane) (q' f' : List ℕ) (h : SameWindow a q f b q' f') where
  pub encode_same : (order : ByteOrder) (body : ℕ) → encode_window order body a q f ≡ encode_window order body b q' f'
  unfolding encode_window encode_head encode_borders encode_content
  encode_same order body =
      rw (
        h.quads,
        h.frames,
        h.inflation_left,
        h.inflation_right,
        h.inflation_top,
        h.inflation_bottom,
        h.frame_size_left,
        h.frame_size_right,
        h.frame_size_top,
        h.frame_size_bottom,
        h.flag,
        h.colors,
        h.material,
      )

  pub length_same : (body : ℕ) → window_length body (length q) (length f) ≡ window_length body (length q') (length f')
  length_same body = rw (h.quads, h.frames)

pub same_both : (x : WindowPane) (qx fx : List ℕ) (a : WindowPane) (qa fa : List ℕ) (b : WindowPane) (qb fb : List ℕ)
    → SameWindow x qx fx a qa fa → SameWindow x qx fx b qb fb → SameWindow a qa fa b qb fb
same_both x qx fx a qa fa b qb fb h k = record {
  inflation_left = sym h.inflation_left ∙ k.inflation_left;
  inflation_right = sym h.inflation_right ∙ k.inflation_right;
  inflation_top = sym h.inflation_top ∙ k.inflation_top;
  inflation_bottom = sym h.inflation_bottom ∙ k.inflation_bottom;
  frame_size_left = sym h.frame_size_left ∙ k.frame_size_left;
  frame_size_right = sym h.frame_size_right ∙ k.frame_size_right;
  frame_size_top = sym h.frame_size_top ∙ k.frame_size_top;
  frame_size_bottom = sym h.frame_size_bottom ∙ k.frame_size_bottom;
  flag = sym h.flag ∙ k.flag;
  colors = sym h.colors ∙ k.colors;
  material = sym h.material ∙ k.material;
  quads = sym h.quads ∙ k.quads;
  frames = sym h.frames ∙ k.frames;
}

-- ---- places

padding_moved : (p body q : ℕ) → p % 4 ≡ 0 → content_padding (p + body) q ≡ content_padding body q
unfolding content_padding
padding_moved p body q h =
    let e : p + body + 124 + 4 * q ≡ p + (body + 124 + 4 * q) = omega arith in
    ap padding e ∙ padding_shift p (body + 124 + 4 * q) h

pub length_shift : (p body q f : ℕ) → p % 4 ≡ 0 → window_length (p + body) q f ≡ window_length body q f
unfolding window_length
length_shift p body q f h = rw (padding_moved p body q h)

pub window_shift : (order : ByteOrder) (p body : ℕ) (x : WindowPane) (quads frames : List ℕ) → p % 4 ≡ 0
    → encode_window order (p + body) x quads frames ≡ encode_window order body x quads frames
unfolding encode_window table_offset
window_shift order p body x quads frames h = rw (padding_moved p body (length quads) h)

pub body_length_shift : (p body : ℕ) (quads frames : List ℕ) → p % 4 ≡ 0 → body_length (p + body) quads frames ≡ body_length body quads frames
unfolding body_length
body_length_shift p body quads frames h = rw (length_shift p body (length quads) (length frames) h)

pub body_shift : (order : ByteOrder) (p body : ℕ) (b : Pane) (x : WindowPane) (quads frames : List ℕ) → p % 4 ≡ 0
    → encode_body order (p + body) b x quads frames ≡ encode_body order body b x quads frames
unfolding encode_body
body_shift order p body b x quads frames h = rw (window_shift order p body x quads frames h)
