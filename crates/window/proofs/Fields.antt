-- The parts of a window that stand in a buffer are read back.
use mathlib.Core.Path.{◌≡◌, refl, sym, ap, ◌∙◌}
use Prim.Native.Nat.{ℕ, zero, suc, ◌+◌, ◌*◌, ◌/◌, ◌%◌, ◌^◌, ◌≤◌, ◌<◌}
use native.Mathlib.Nat.{add-zero}
use native.Mathlib.Omega.{arith}
use mathlib.Core.List.{List, [], ◌∷◌}
use lib.ListN.{length}
use lib.IntN.{ℤ}
use lib.Dec.{lit≤}
use mir.Syntax.{w16}
use mir.Val.{SFits}
use Rattle.core_read.specs.Bytes.{bytes_of_all, bits_of}
use Rattle.core_read.specs.Taken.{advanced}
use Rattle.core_read.specs.Taken.{Taken}
use Rattle.core_read.specs.Lists.{numbers_taken}
use Rattle.core_read.specs.declared.cursor.ByteOrder.{ByteOrder}
use Rattle.core_read.specs.declared.cursor.Cursor.{Cursor}
use Rattle.core_read.proofs.Numbers.{length_bytes}
use Rattle.core_read.proofs.Cursors.{pos_advanced, advanced_more}
use Rattle.core_read.proofs.Runs.{seek_here}
use Rattle.core_read.proofs.Back.{Holds, Fit, holds_fits, numbers_back, cut, there, number_at_lem}
use Rattle.core_read.proofs.TwosComplement.{bits_fit, signed_bits}
use Rattle.flags.specs.Enums.{flip_of, flip_number}
use Rattle.flags.specs.Fields.{window_flags_number}
use Rattle.flags.proofs.Fields.{window_flags_fit, window_flags_back}
use Rattle.ui2d.specs.Typed.{TypedColors}
use Rattle.ui2d.proofs.Colors.{length_colors, colors_at}
use Rattle.window_read.specs.Window.{content_taken, frame_taken, frames_taken}
use Rattle.window_head.specs.Head.{sides_taken, head_taken}
use Rattle.window_write.specs.Write.{GoodFlips, encode_sides, encode_borders, encode_head, encode_content, frame_offsets, encode_frame, encode_frames}
use Rattle.window_read.specs.Typed.{TypedWindow}
use Rattle.window_read.specs.declared.WindowContent.{WindowContent}
use Rattle.window_read.specs.declared.WindowPane.{WindowPane}
use Rattle.window_head.specs.declared.WindowHead.{WindowHead}
use Rattle.window_read.specs.declared.WindowFrame.{WindowFrame}
use Rattle.window.proofs.Lengths.{length_sides, length_borders, length_frame}
use Rattle.std.specs.Prelude.{Ok}
use Rattle.window_head.specs.declared.Sides.{Sides}

-- what reading a content that was written gives: the same, with the count of its quads
unfoldable pub read_back_content : WindowContent → List ℕ → WindowContent
read_back_content x quads = record {
  vertex_colors = x.vertex_colors;
  material_index = x.material_index;
  quad_count = length quads / 8;
}

-- ---- numbers

pub frames_fit : (n : ℕ) → n ≤ 510 → n / 2 < 256 ^ 1
frames_fit n h = omega arith

pub flip_number_lem : (n : ℕ) → n ≤ 5 → flip_number (flip_of n) ≡ n
flip_number_lem zero h = refl
flip_number_lem (suc zero) h = refl
flip_number_lem (suc (suc zero)) h = refl
flip_number_lem (suc (suc (suc zero))) h = refl
flip_number_lem (suc (suc (suc (suc zero)))) h = refl
flip_number_lem (suc (suc (suc (suc (suc zero))))) h = refl
flip_number_lem (suc (suc (suc (suc (suc (suc n)))))) h = absurd (omega arith)

-- what the types say of a content
pub record TypedContent (x : WindowContent) : Type 0 where
  pub colors : TypedColors x.vertex_colors
  pub material : x.material_index < 256 ^ 2

-- the head that is written
abbrev pub head_of : WindowPane → ℕ → ℕ → WindowHead
head_of x n table = record {
  inflation = record { left = x.inflation_left; right = x.inflation_right; top = x.inflation_top; bottom = x.inflation_bottom };
  frame_size = record { left = x.frame_size_left; right = x.frame_size_right; top = x.frame_size_top; bottom = x.frame_size_bottom };
  frame_count = n;
  flag = x.flag;
  content_offset = 112;
  table_offset = table;
}

module _ {s : List ℕ} (c : Cursor) (order : ByteOrder) where
  pub numbers_at_lem : (k w : ℕ) (l : List ℕ) → Fit w l → Holds s (c.pos + k) (bytes_of_all order w l)
      → ◌≡◌ {A = Taken (List ℕ)} (numbers_taken order w (length l) s (Ok (advanced c k))) (record { value = l; then = Ok (advanced c (k + w * length l)) })
  numbers_at_lem k w l f a = numbers_back (advanced c k) order w l f (there c k _ a) ∙ rw advanced_more

  sides_at : (k : ℕ) (l r t b : ℤ) → SFits w16 l → SFits w16 r → SFits w16 t → SFits w16 b → Holds s (c.pos + k) (encode_sides order l r t b)
      → ◌≡◌ {A = Taken Sides} (sides_taken order s (Ok (advanced c k)))
      (record { value = record { left = l; right = r; top = t; bottom = b }; then = Ok (advanced c (k + 8)) })
  unfolding sides_taken encode_sides
  sides_at k l r t b fl fr ft fb a =
      let e : k + 2 + 2 + 2 + 2 ≡ k + 8 = omega arith in
      let (a₁, r₁) = cut c k 2 _ _ (length_bytes order 2 (bits_of l)) a in
      let (a₂, r₂) = cut c (k + 2) 2 _ _ (length_bytes order 2 (bits_of r)) r₁ in
      let (a₃, a₄) = cut c (k + 2 + 2) 2 _ _ (length_bytes order 2 (bits_of t)) r₂ in
      rw (
        number_at_lem c order k 2 (bits_of l) (bits_fit l fl) a₁,
        number_at_lem c order (k + 2) 2 (bits_of r) (bits_fit r fr) a₂,
        number_at_lem c order (k + 2 + 2) 2 (bits_of t) (bits_fit t ft) a₃,
        number_at_lem c order (k + 2 + 2 + 2) 2 (bits_of b) (bits_fit b fb) a₄,
        signed_bits l fl,
        signed_bits r fr,
        signed_bits t ft,
        signed_bits b fb,
        e,
      )

  pub head_at : (x : WindowPane) (n table : ℕ) → TypedWindow x → n < 256 ^ 1 → table < 256 ^ 4 → Holds s (c.pos + 0) (encode_head order x n table)
      → ◌≡◌ {A = Taken WindowHead} (head_taken order s (Ok (advanced c 0))) (record { value = head_of x n table; then = Ok (advanced c 28) })
  unfolding head_taken encode_head encode_borders
  head_at x n table t hn ht a =
      let (ab, r₂) = cut c 0 16 _ _ (length_borders order x) a in
      let (a₁, a₂) = cut c 0 8 _ _ (length_sides order _ _ _ _) ab in
      let (a₃, r₃) = cut c 16 1 _ _ (length_bytes order 1 n) r₂ in
      let (a₄, r₄) = cut c 17 1 _ _ (length_bytes order 1 (window_flags_number x.flag)) r₃ in
      let (a₅, r₅) = cut c 18 2 _ _ (length_bytes order 2 0) r₄ in
      let (a₆, a₇) = cut c 20 4 _ _ (length_bytes order 4 112) r₅ in
      rw (
        sides_at 0 _ _ _ _ t.inflation_left t.inflation_right t.inflation_top t.inflation_bottom a₁,
        sides_at 8 _ _ _ _ t.frame_size_left t.frame_size_right t.frame_size_top t.frame_size_bottom a₂,
        number_at_lem c order 16 1 n hn a₃,
        number_at_lem c order 17 1 (window_flags_number x.flag) (window_flags_fit x.flag) a₄,
        number_at_lem c order 18 2 0 (lit≤ tt) a₅,
        number_at_lem c order 20 4 112 (lit≤ tt) a₆,
        number_at_lem c order 24 4 table ht a₇,
        window_flags_back x.flag,
      )

  -- the content, at 28, without its quads
  pub content_at : (x : WindowContent) (quads : List ℕ) → TypedContent x → length quads / 8 < 256 ^ 1
      → Holds s (c.pos + 28) (encode_content order x quads)
      → ◌≡◌ {A = Taken WindowContent} (content_taken order s (Ok (advanced c 28))) (record { value = read_back_content x quads; then = Ok (advanced c 48) })
      × Holds s (c.pos + 48) (bytes_of_all order 4 quads)
  unfolding content_taken encode_content read_back_content
  content_at x quads t hn a =
      let (a₁, r₁) = cut c 28 16 _ _ (length_colors order x.vertex_colors t.colors.four) a in
      let (a₂, r₂) = cut c 44 2 _ _ (length_bytes order 2 x.material_index) r₁ in
      let (a₃, r₃) = cut c 46 1 _ _ (length_bytes order 1 (length quads / 8)) r₂ in
      let (a₄, a₅) = cut c 47 1 _ _ (length_bytes order 1 0) r₃ in (
        rw (
          colors_at c order 28 x.vertex_colors t.colors a₁,
          number_at_lem c order 44 2 x.material_index t.material a₂,
          number_at_lem c order 46 1 (length quads / 8) hn a₃,
          number_at_lem c order 47 1 0 (lit≤ tt) a₄,
        ),
        a₅,
      )

  frame_at : (k material flip : ℕ) → material < 256 ^ 2 → flip ≤ 5 → Holds s (c.pos + k) (encode_frame order material flip)
      → ◌≡◌ {A = Taken WindowFrame} (frame_taken order s (Ok (advanced c k)))
      (record { value = record { material_index = material; texture_flip_mode = flip_of flip }; then = Ok (advanced c (k + 4)) })
  unfolding frame_taken encode_frame
  frame_at k material flip hm hf a =
      let e : k + 2 + 1 + 1 ≡ k + 4 = omega arith in
      let (a₁, r₁) = cut c k 2 _ _ (length_bytes order 2 material) a in
      let (a₂, a₃) = cut c (k + 2) 1 _ _ (length_bytes order 1 flip) r₁ in
      rw (number_at_lem c order k 2 material hm a₁, number_at_lem c order (k + 2) 1 flip (omega arith) a₂, number_at_lem c order (k + 2 + 1) 1 0 (lit≤ tt) a₃, e)

  -- the frames, one after the other from k on, at the offsets from a on
  pub frames_at : (k from a : ℕ) (l : List ℕ) → from + a ≡ c.pos + k → Fit 2 l → GoodFlips l → length l % 2 ≡ 0 → Holds s (c.pos + k) (encode_frames order l)
      → ◌≡◌ {A = Taken (List ℕ)} (frames_taken order s from (frame_offsets a (length l / 2)) (Ok (advanced c k)))
      (record { value = l; then = Ok (advanced c (k + 4 * (length l / 2))) })
  unfolding frames_taken frame_offsets encode_frames GoodFlips Fit
  frames_at k from a [] e f g h b = ap (λ (n : ℕ). record { value = []; then = Ok (advanced c n) }) (sym (add-zero k))
  frames_at k from a (m ∷ []) e f g h b = absurd (omega arith)
  frames_at k from a (m ∷ x ∷ l) e f g h b =
      let n : suc (suc (length l)) / 2 ≡ suc (length l / 2) = omega arith in
      let i : k + 4 * suc (length l / 2) ≡ k + 4 + 4 * (length l / 2) = omega arith in
      let (b₁, b₂) = cut c k 4 _ _ (length_frame order m x) b in
      let w : c.pos + k ≤ length s = omega (arith, holds_fits (encode_frame order m x) b₁) in
      rw (
        n,
        frames_taken,
        seek_here s (advanced c k) (from + a) (e ∙ sym (pos_advanced c k)) (rw pos_advanced w),
        frame_at k m x f.0 g.0 b₁,
        frames_at (k + 4) from (a + 4) l (omega (arith, e)) f.1.1 g.1 (omega (arith, h)) b₂,
        flip_number_lem x g.0,
        i,
      )
