-- What a window has beyond the base, as it is written: its checks, its length and its bytes.
use Rattle.std.specs.Prelude.{◌≡◌, ℕ, zero, suc, ◌+◌, ◌*◌, ◌/◌, ◌%◌, ◌≤◌, List, [], ◌∷◌, ◌++◌, length, replicate, ℤ, ltb}
use Rattle.core_read.specs.Bytes.{bytes_of, bytes_of_all, bits_of, padding}
use Rattle.core_read.specs.Taken.{stop_if, Place}
use Rattle.core_checks.specs.Checks.{count_checked}
use Rattle.core_read.specs.declared.error.Refusal.TheVariants.{BadFlip}
use Rattle.core_read.specs.declared.error.NumberList.TheVariants.{Quads, Frames}
use Rattle.core_read.specs.declared.cursor.ByteOrder.{ByteOrder}
use Rattle.flags.specs.Fields.{window_flags_number}
use Rattle.ui2d.specs.Parts.{encode_colors}
use Rattle.window_read.specs.declared.WindowContent.{WindowContent}
use Rattle.window_read.specs.declared.WindowPane.{WindowPane}
use Rattle.core_read.specs.declared.error.NumberList.TheVariants.{Quads, Frames}

-- ---- checks

-- 12: the first frame, counted from i, whose flip is above 5
unfoldable pub flips_checked : Place → ℕ → List ℕ → Place
flips_checked p i [] = p
flips_checked p i (material ∷ []) = p
flips_checked p i (material ∷ flip ∷ frames) = flips_checked (stop_if p (ltb 5 flip) (BadFlip i flip)) (i + 1) frames

-- 11 for the quads, list 1, 11 for the frames, list 4, then 12
unfoldable pub window_checked : Place → List ℕ → List ℕ → Place
window_checked p quads frames =
    let q : Place = count_checked p Quads 8 (length quads) in
    let r : Place = count_checked q Frames 2 (length frames) in
    flips_checked r 0 frames

-- each frame's flip is at most 5
unfoldable pub GoodFlips : List ℕ → Type 0
GoodFlips [] = Unit {0}
GoodFlips (material ∷ []) = Unit {0}
GoodFlips (material ∷ flip ∷ frames) = (flip ≤ 5) × GoodFlips frames

-- what the checks leave of the lists
pub record GoodWindow (quads frames : List ℕ) : Type 0 where
  pub most_quads : length quads ≤ 2040
  pub whole_quads : length quads % 8 ≡ 0
  pub most_frames : length frames ≤ 510
  pub whole_frames : length frames % 2 ≡ 0
  pub flips : GoodFlips frames

-- ---- places

-- a content of q quad numbers is followed by zeros to a multiple of 4 of the absolute place
unfoldable pub content_padding : ℕ → ℕ → ℕ
content_padding body q = padding (body + 124 + 4 * q)

-- the table's offset from B − 8: the content, at 112, has 20 bytes and its quads
unfoldable pub table_offset : ℕ → ℕ → ℕ
table_offset body q = 132 + 4 * q + content_padding body q

-- the bytes beyond the base, with q quad numbers and f frame numbers
unfoldable pub window_length : ℕ → ℕ → ℕ → ℕ
window_length body q f = 48 + 4 * q + content_padding body q + 8 * (f / 2)

-- ---- bytes

-- four i16: left, right, top, bottom
unfoldable pub encode_sides : ByteOrder → ℤ → ℤ → ℤ → ℤ → List ℕ
encode_sides order l r t b =
    bytes_of order 2 (bits_of l) ++ (bytes_of order 2 (bits_of r) ++ (bytes_of order 2 (bits_of t) ++ bytes_of order 2 (bits_of b)))

-- inflation, then frame size
unfoldable pub encode_borders : ByteOrder → WindowPane → List ℕ
encode_borders order x =
    encode_sides order x.inflation_left x.inflation_right x.inflation_top x.inflation_bottom
    ++ encode_sides order x.frame_size_left x.frame_size_right x.frame_size_top x.frame_size_bottom

-- these, frame count n, flags, u16 0, content offset 112, the table's offset
unfoldable pub encode_head : ByteOrder → WindowPane → ℕ → ℕ → List ℕ
encode_head order x n table =
    encode_borders order x
    ++ (bytes_of order 1 n
    ++ (bytes_of order 1 (window_flags_number x.flag) ++ (bytes_of order 2 0 ++ (bytes_of order 4 112 ++ bytes_of order 4 table))))

-- four colours, material, quad count, 0, quads
unfoldable pub encode_content : ByteOrder → WindowContent → List ℕ → List ℕ
encode_content order x quads =
    encode_colors order x.vertex_colors
    ++ (bytes_of order 2 x.material_index
    ++ (bytes_of order 1 (length quads / 8) ++ (bytes_of order 1 0 ++ bytes_of_all order 4 quads)))

-- the offsets of n frames of 4 bytes, from the first on
unfoldable pub frame_offsets : ℕ → ℕ → List ℕ
frame_offsets first zero = []
frame_offsets first (suc n) = first ∷ frame_offsets (first + 4) n

-- a frame: material, flip, 0
unfoldable pub encode_frame : ByteOrder → ℕ → ℕ → List ℕ
encode_frame order material flip = bytes_of order 2 material ++ (bytes_of order 1 flip ++ bytes_of order 1 0)

unfoldable pub encode_frames : ByteOrder → List ℕ → List ℕ
encode_frames order [] = []
encode_frames order (material ∷ []) = []
encode_frames order (material ∷ flip ∷ frames) = encode_frame order material flip ++ encode_frames order frames

-- THE BYTES of a body at B: head, content, zeros, table, frames
unfoldable pub encode_window : ByteOrder → ℕ → WindowPane → List ℕ → List ℕ → List ℕ
encode_window order body x quads frames =
    let n : ℕ = length frames / 2 in
    let table : ℕ = table_offset body (length quads) in
    encode_head order x n table
    ++ (encode_content order x.content quads
    ++ (replicate (content_padding body (length quads)) 0
    ++ (bytes_of_all order 4 (frame_offsets (table + 4 * n) n) ++ encode_frames order frames)))
