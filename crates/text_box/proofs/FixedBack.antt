-- The 84 fixed bytes of a text box are read back.
use mathlib.Core.Path.{◌≡◌}
use Prim.Native.Nat.{ℕ, ◌+◌, ◌^◌, ◌<◌}
use native.Mathlib.Omega.{arith}
use mathlib.Core.List.{List}
use lib.ListN.{length, length-append}
use Rattle.core_read.specs.Taken.{advanced}
use Rattle.core_read.specs.declared.cursor.ByteOrder.{ByteOrder}
use Rattle.core_read.specs.declared.cursor.Cursor.{Cursor}
use Rattle.core_read.specs.Taken.{Taken}
use Rattle.core_read.proofs.Numbers.{length_bytes}
use Rattle.core_read.proofs.Back.{Holds, cut, number_at_lem}
use Rattle.flags.specs.Enums.{alignment_number}
use Rattle.flags.specs.Fields.{origin_number, text_flags_number}
use Rattle.flags.specs.declared.text.TextAlignment.{TextAlignment}
use Rattle.flags.proofs.Enums.{alignment_back, alignment_le}
use Rattle.flags.proofs.Fields.{origin_fit, origin_back, text_flags_fit, text_flags_back}
use Rattle.ui2d.proofs.Parts.{length_vector2, length_color, vector2_at, color_at_lem}
use Rattle.text_box_fixed.specs.Fixed.{head_taken, font_taken, shadow_taken}
use Rattle.text_box_read.specs.TextBox.{measure_kind, measure_vector}
use Rattle.text_box_write.specs.Fixed.{encode_indices, encode_style, encode_font, encode_shadow, encode_fixed}
use Rattle.text_box_read.specs.Typed.{TypedTextBox}
use Rattle.text_box_read.specs.declared.TextBoxPane.{TextBoxPane}
use Rattle.text_box_fixed.specs.declared.fixed.TextHead.{TextHead}
use Rattle.text_box_fixed.specs.declared.fixed.TextFont.{TextFont}
use Rattle.text_box_fixed.specs.declared.fixed.TextShadow.{TextShadow}
use Rattle.std.specs.Prelude.{Ok}

-- ---- lengths

module _ (order : ByteOrder) (x : TextBoxPane) where
  pub length_indices : length (encode_indices order x) ≡ 8
  unfolding encode_indices
  length_indices = simp (length-append, length_bytes)

  pub length_style : length (encode_style order x) ≡ 8
  unfolding encode_style
  length_style = simp (length-append, length_bytes)

  pub length_font : (t l : ℕ) → length (encode_font order x t l) ≡ 32
  unfolding encode_font
  length_font t l = simp (length-append, length_bytes, length_vector2, length_color)

  length_shadow : (n : ℕ) → length (encode_shadow order x n) ≡ 36
  unfolding encode_shadow
  length_shadow n = simp (length-append, length_bytes, length_vector2, length_color)

  pub length_fixed : (t l n : ℕ) → length (encode_fixed order x t l n) ≡ 84
  unfolding encode_fixed
  length_fixed t l n = simp (length-append, length_indices, length_style, length_font, length_shadow)

-- ---- the reads

small_alignment : (a : TextAlignment) → alignment_number a < 256 ^ 1
small_alignment a = omega (arith, alignment_le a)

-- what the three chunks read as
abbrev pub head_back : TextBoxPane → Cursor → Taken TextHead
head_back x d = record {
  value = record {
    text_buffer_size = x.text_buffer_size;
    text_length = x.text_length;
    material_index = x.material_index;
    font_index = x.font_index;
    text_origin = x.text_origin;
    text_alignment = x.text_alignment;
    word = record { flags = x.text_flags; measure = measure_kind x.font_measure };
    italic_tilt = x.italic_tilt;
  };
  then = Ok d;
}

abbrev pub font_back : TextBoxPane → ℕ → ℕ → Cursor → Taken TextFont
font_back x t l d = record {
  value = record {
    text_offset = t;
    top_color = x.font_top_color;
    bottom_color = x.font_bottom_color;
    measure = measure_vector x.font_measure;
    character_space = x.character_space;
    line_space = x.line_space;
    label_offset = l;
  };
  then = Ok d;
}

abbrev pub shadow_back : TextBoxPane → ℕ → Cursor → Taken TextShadow
shadow_back x n d = record {
  value = record {
    translation = x.shadow_translation;
    size = x.shadow_size;
    top_color = x.shadow_top_color;
    bottom_color = x.shadow_bottom_color;
    italic_tilt = x.shadow_italic_tilt;
    line_offset = n;
    per_character_offset = 0;
  };
  then = Ok d;
}

-- the three chunks one after the other
pub record FixedBack (s : List ℕ) (c : Cursor) (order : ByteOrder) (x : TextBoxPane) (f l n : ℕ) : Type 0 where
  pub head : head_taken order s (Ok (advanced c 0)) ≡ head_back x (advanced c 16)
  pub font : font_taken order s (Ok (advanced c 16)) ≡ font_back x f l (advanced c 48)
  pub shadow : shadow_taken order s (Ok (advanced c 48)) ≡ shadow_back x n (advanced c 84)

module _ {s : List ℕ} (c : Cursor) (order : ByteOrder) (x : TextBoxPane) (t : TypedTextBox x) where
  head_back_lem : Holds s (c.pos + 0) (encode_indices order x) → Holds s (c.pos + 8) (encode_style order x)
      → head_taken order s (Ok (advanced c 0)) ≡ head_back x (advanced c 16)
  unfolding encode_indices encode_style head_taken
  head_back_lem a b =
      let (a₁, r₁) = cut c 0 2 _ _ (length_bytes order 2 x.text_buffer_size) a in
      let (a₂, r₂) = cut c 2 2 _ _ (length_bytes order 2 x.text_length) r₁ in
      let (a₃, a₄) = cut c 4 2 _ _ (length_bytes order 2 x.material_index) r₂ in
      let (b₁, q₁) = cut c 8 1 _ _ (length_bytes order 1 (origin_number x.text_origin)) b in
      let (b₂, q₂) = cut c 9 1 _ _ (length_bytes order 1 (alignment_number x.text_alignment)) q₁ in
      let (b₃, b₄) = cut c 10 2 _ _ (length_bytes order 2 (text_flags_number x.text_flags (measure_kind x.font_measure))) q₂ in
      rw (
        number_at_lem c order 0 2 x.text_buffer_size t.buffer a₁,
        number_at_lem c order 2 2 x.text_length t.long a₂,
        number_at_lem c order 4 2 x.material_index t.material a₃,
        number_at_lem c order 6 2 x.font_index t.font a₄,
        number_at_lem c order 8 1 (origin_number x.text_origin) (origin_fit x.text_origin) b₁,
        number_at_lem c order 9 1 (alignment_number x.text_alignment) (small_alignment x.text_alignment) b₂,
        number_at_lem c order 10 2 (text_flags_number x.text_flags (measure_kind x.font_measure)) (text_flags_fit x.text_flags (measure_kind x.font_measure)) b₃,
        number_at_lem c order 12 4 x.italic_tilt.bits t.tilt b₄,
        origin_back x.text_origin,
        alignment_back x.text_alignment,
        text_flags_back x.text_flags (measure_kind x.font_measure),
      )

  font_back_lem : (f l : ℕ) → f < 256 ^ 4 → l < 256 ^ 4 → Holds s (c.pos + 16) (encode_font order x f l)
      → font_taken order s (Ok (advanced c 16)) ≡ font_back x f l (advanced c 48)
  unfolding encode_font font_taken
  font_back_lem f l hf hl a =
      let (a₁, r₁) = cut c 16 4 _ _ (length_bytes order 4 f) a in
      let (a₂, r₂) = cut c 20 4 _ _ (length_color order x.font_top_color) r₁ in
      let (a₃, r₃) = cut c 24 4 _ _ (length_color order x.font_bottom_color) r₂ in
      let (a₄, r₄) = cut c 28 8 _ _ (length_vector2 order (measure_vector x.font_measure)) r₃ in
      let (a₅, r₅) = cut c 36 4 _ _ (length_bytes order 4 x.character_space.bits) r₄ in
      let (a₆, a₇) = cut c 40 4 _ _ (length_bytes order 4 x.line_space.bits) r₅ in
      rw (
        number_at_lem c order 16 4 f hf a₁,
        color_at_lem c order 20 x.font_top_color t.top a₂,
        color_at_lem c order 24 x.font_bottom_color t.bottom a₃,
        vector2_at c order 28 (measure_vector x.font_measure) t.measure a₄,
        number_at_lem c order 36 4 x.character_space.bits t.character a₅,
        number_at_lem c order 40 4 x.line_space.bits t.line a₆,
        number_at_lem c order 44 4 l hl a₇,
      )

  shadow_back_lem : (n : ℕ) → n < 256 ^ 4 → Holds s (c.pos + 48) (encode_shadow order x n)
      → shadow_taken order s (Ok (advanced c 48)) ≡ shadow_back x n (advanced c 84)
  unfolding encode_shadow shadow_taken
  shadow_back_lem n hn a =
      let (a₁, r₁) = cut c 48 8 _ _ (length_vector2 order x.shadow_translation) a in
      let (a₂, r₂) = cut c 56 8 _ _ (length_vector2 order x.shadow_size) r₁ in
      let (a₃, r₃) = cut c 64 4 _ _ (length_color order x.shadow_top_color) r₂ in
      let (a₄, r₄) = cut c 68 4 _ _ (length_color order x.shadow_bottom_color) r₃ in
      let (a₅, r₅) = cut c 72 4 _ _ (length_bytes order 4 x.shadow_italic_tilt.bits) r₄ in
      let (a₆, a₇) = cut c 76 4 _ _ (length_bytes order 4 n) r₅ in
      rw (
        vector2_at c order 48 x.shadow_translation t.shadow_translation a₁,
        vector2_at c order 56 x.shadow_size t.shadow_size a₂,
        color_at_lem c order 64 x.shadow_top_color t.shadow_top a₃,
        color_at_lem c order 68 x.shadow_bottom_color t.shadow_bottom a₄,
        number_at_lem c order 72 4 x.shadow_italic_tilt.bits t.shadow_tilt a₅,
        number_at_lem c order 76 4 n hn a₆,
        number_at_lem c order 80 4 0 (omega arith) a₇,
      )

  pub fixed_back : (f l n : ℕ) → f < 256 ^ 4 → l < 256 ^ 4 → n < 256 ^ 4 → Holds s (c.pos + 0) (encode_fixed order x f l n) → FixedBack s c order x f l n
  unfolding encode_fixed
  fixed_back f l n hf hl hn a =
      let (a₁, r₁) = cut c 0 8 _ _ (length_indices order x) a in
      let (a₂, r₂) = cut c 8 8 _ _ (length_style order x) r₁ in
      let (a₃, a₄) = cut c 16 32 _ _ (length_font order x f l) r₂ in
      record { head = head_back_lem a₁ a₂; font = font_back_lem f l hf hl a₃; shadow = shadow_back_lem n hn a₄ }
