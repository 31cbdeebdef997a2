-- Equality of text boxes: equal ones have equal bytes, and two that are equal to a third are equal.
use mathlib.Core.Path.{◌≡◌, sym, ◌∙◌}
use Prim.Native.Nat.{ℕ}
use Rattle.core_read.specs.declared.cursor.ByteOrder.{ByteOrder}
use Rattle.text_box_write.specs.Fixed.{encode_indices, encode_style, encode_font, encode_shadow, encode_fixed}
use Rattle.text_box_write.specs.Written.{encode_text_box, text_box_length}
use Rattle.text_box.specs.Same.{Whole, SameTextBox}

module _ (order : ByteOrder) (a b : Whole) (h : SameTextBox a b) where
  same_indices : encode_indices order a.box ≡ encode_indices order b.box
  unfolding encode_indices
  same_indices = rw (h.buffer, h.long, h.material, h.font)

  same_style : encode_style order a.box ≡ encode_style order b.box
  unfolding encode_style
  same_style = rw (h.origin, h.alignment, h.flags, h.measure, h.tilt)

  same_font : (t l : ℕ) → encode_font order a.box t l ≡ encode_font order b.box t l
  unfolding encode_font
  same_font t l = rw (h.top, h.bottom, h.measure, h.character, h.line)

  same_shadow : (n : ℕ) → encode_shadow order a.box n ≡ encode_shadow order b.box n
  unfolding encode_shadow
  same_shadow n = rw (h.shadow_translation, h.shadow_size, h.shadow_top, h.shadow_bottom, h.shadow_tilt)

  same_fixed : (t l n : ℕ) → encode_fixed order a.box t l n ≡ encode_fixed order b.box t l n
  unfolding encode_fixed
  same_fixed t l n = rw (same_indices, same_style, same_font t l, same_shadow n)

  pub encode_same : (body : ℕ)
      → encode_text_box order body a.box a.units a.lines a.label ≡ encode_text_box order body b.box b.units b.lines b.label
  unfolding encode_text_box
  encode_same body = rw (h.text, h.name, h.table, same_fixed)

  pub length_same : (body : ℕ)
      → text_box_length body a.box a.units a.lines a.label ≡ text_box_length body b.box b.units b.lines b.label
  unfolding text_box_length
  length_same body = rw (h.text, h.name, h.table)

pub same_both : (x a b : Whole) → SameTextBox x a → SameTextBox x b → SameTextBox a b
same_both x a b h k = record {
  buffer = sym h.buffer ∙ k.buffer;
  long = sym h.long ∙ k.long;
  material = sym h.material ∙ k.material;
  font = sym h.font ∙ k.font;
  origin = sym h.origin ∙ k.origin;
  alignment = sym h.alignment ∙ k.alignment;
  flags = sym h.flags ∙ k.flags;
  tilt = sym h.tilt ∙ k.tilt;
  top = sym h.top ∙ k.top;
  bottom = sym h.bottom ∙ k.bottom;
  measure = sym h.measure ∙ k.measure;
  character = sym h.character ∙ k.character;
  line = sym h.line ∙ k.line;
  shadow_translation = sym h.shadow_translation ∙ k.shadow_translation;
  shadow_size = sym h.shadow_size ∙ k.shadow_size;
  shadow_top = sym h.shadow_top ∙ k.shadow_top;
  shadow_bottom = sym h.shadow_bottom ∙ k.shadow_bottom;
  shadow_tilt = sym h.shadow_tilt ∙ k.shadow_tilt;
  text = sym h.text ∙ k.text;
  name = sym h.name ∙ k.name;
  table = sym h.table ∙ k.table;
}
