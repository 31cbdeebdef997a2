-- Document 01's text box, as the bytes of the body write in either order of bytes: any base with its names within their widths, any text box.
use mathlib.Core.Path.{◌≡◌}
use mathlib.Core.List.{List, [], ◌∷◌, ◌++◌}
use Prim.Native.Nat.{ℕ}
use native.Mathlib.Omega.{arith}
use lib.ListN.{length, length-append}
use Rattle.core_read.specs.Bytes.{bytes_of, number_at, padding}
use Rattle.core_read.specs.declared.cursor.ByteOrder.{ByteOrder}
use Rattle.core_read.proofs.Numbers.{length_bytes}
use Rattle.core_read.proofs.Back.{Holds, holds_whole, holds_left, holds_right, split, number_stands}
use Rattle.ui2d.specs.Parts.{encode_vector2, encode_color}
use Rattle.ui2d.proofs.Parts.{length_vector2, length_color}
use Rattle.pane_read.specs.Pane.{encode_pane, Sound}
use Rattle.pane_read.specs.declared.Pane.{Pane}
use Rattle.pane.proofs.Back.{length_pane}
use Rattle.text_box_parts.specs.Parts.{present, text_part, label_part, line_part}
use Rattle.text_box_read.specs.TextBox.{measure_vector}
use Rattle.text_box_read.specs.declared.TextBoxPane.{TextBoxPane}
use Rattle.text_box_write.specs.Fixed.{encode_indices, encode_style, encode_font, encode_shadow, encode_fixed}
use Rattle.text_box_write.specs.Written.{parts_encoded, encode_text_box}
use Rattle.text_box.specs.Body.{encode_body}
use Rattle.text_box.proofs.FixedBack.{length_indices, length_style, length_font}
use Rattle.text_box.proofs.Whole.{length_parts}

-- one unit, a label of two bytes, one line
pub record OneEach (x : TextBoxPane) (units lines label : List ℕ) : Type 0 where
  pub unit : ℕ
  pub text : text_part x.text units ≡ present (unit ∷ [])
  pub first : ℕ
  pub second : ℕ
  pub name : label_part x.label label ≡ present (first ∷ second ∷ [])
  pub offset : ℕ
  pub width : ℕ
  pub table : line_part x.line_table lines ≡ present (offset ∷ width ∷ [])

-- of these at 8: offsets 168, 172, 176; body 177
pub record At8 (order : ByteOrder) (s : List ℕ) : Type 0 where
  pub text : number_at order 4 s 92 ≡ 168
  pub label : number_at order 4 s 120 ≡ 172
  pub lines : number_at order 4 s 152 ≡ 176
  pub body : length s ≡ 177

-- the three offsets in the fixed bytes
record Offsets (order : ByteOrder) (s : List ℕ) (t l n : ℕ) : Type 0 where
  text : Holds s 92 (bytes_of order 4 t)
  label : Holds s 120 (bytes_of order 4 l)
  lines : Holds s 152 (bytes_of order 4 n)

module _ (order : ByteOrder) (x : TextBoxPane) {s : List ℕ} where
  font_offsets : (t l : ℕ) → Holds s 92 (encode_font order x t l) → Holds s 92 (bytes_of order 4 t) × Holds s 120 (bytes_of order 4 l)
  unfolding encode_font
  font_offsets t l a =
      let (text, r₁) = split (bytes_of order 4 t) _ 4 (length_bytes order 4 t) a in
      let r₂ = holds_right (encode_color order x.font_top_color) _ 4 (length_color order _) r₁ in
      let r₃ = holds_right (encode_color order x.font_bottom_color) _ 4 (length_color order _) r₂ in
      let r₄ = holds_right (encode_vector2 order (measure_vector x.font_measure)) _ 8 (length_vector2 order _) r₃ in
      let r₅ = holds_right (bytes_of order 4 x.character_space.bits) _ 4 (length_bytes order 4 _) r₄ in
      (text, holds_right (bytes_of order 4 x.line_space.bits) (bytes_of order 4 l) 4 (length_bytes order 4 _) r₅)

  shadow_offset : (n : ℕ) → Holds s 124 (encode_shadow order x n) → Holds s 152 (bytes_of order 4 n)
  unfolding encode_shadow
  shadow_offset n a =
      let r₁ = holds_right (encode_vector2 order x.shadow_translation) _ 8 (length_vector2 order _) a in
      let r₂ = holds_right (encode_vector2 order x.shadow_size) _ 8 (length_vector2 order _) r₁ in
      let r₃ = holds_right (encode_color order x.shadow_top_color) _ 4 (length_color order _) r₂ in
      let r₄ = holds_right (encode_color order x.shadow_bottom_color) _ 4 (length_color order _) r₃ in
      let r₅ = holds_right (bytes_of order 4 x.shadow_italic_tilt.bits) _ 4 (length_bytes order 4 _) r₄ in
      holds_left (bytes_of order 4 n) (bytes_of order 4 0) r₅

  offsets : (t l n : ℕ) → Holds s 76 (encode_fixed order x t l n) → Offsets order s t l n
  unfolding encode_fixed
  offsets t l n a =
      let r₁ = holds_right (encode_indices order x) _ 8 (length_indices order x) a in
      let r₂ = holds_right (encode_style order x) _ 8 (length_style order x) r₁ in
      let (font, shadow) = split (encode_font order x t l) (encode_shadow order x n) 32 (length_font order x t l) r₂ in
      let (text, label) = font_offsets t l font in
      record { text = text; label = label; lines = shadow_offset n shadow }

parts_at_8 : (order : ByteOrder) (b : Pane) (x : TextBoxPane) (unit first second offset width : ℕ) → Sound b
    → At8 order (encode_pane order b ++ parts_encoded order 8 x (present (unit ∷ [])) (present (first ∷ second ∷ [])) (present (offset ∷ width ∷ [])))
unfolding padding
parts_at_8 order b x unit first second offset width sound =
    let parts : List ℕ = parts_encoded order 8 x (present (unit ∷ [])) (present (first ∷ second ∷ [])) (present (offset ∷ width ∷ [])) in
    let own = holds_right (encode_pane order b) parts 76 (length_pane order b sound) (holds_whole (encode_pane order b ++ parts)) in
    let o = offsets order x 168 172 176 (holds_left (encode_fixed order x 168 172 176) _ own) in
    record {
      text = number_stands order 4 168 (omega arith) o.text;
      label = number_stands order 4 172 (omega arith) o.label;
      lines = number_stands order 4 176 (omega arith) o.lines;
      body = rw (length-append, length_pane order b sound, length_parts);
    }

pub text_box_at_8 : (order : ByteOrder) (b : Pane) (x : TextBoxPane) (units lines label : List ℕ) → Sound b → OneEach x units lines label
    → At8 order (encode_body order 8 b x units lines label)
unfolding encode_body encode_text_box
text_box_at_8 order b x units lines label sound e =
    rw (e.text, e.name, e.table) (parts_at_8 order b x e.unit e.first e.second e.offset e.width sound)
