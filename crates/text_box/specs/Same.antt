-- When two text boxes, each with its units, lines and label, are equal beyond the base: every field, floats by their bits,
-- text, label and line table by presence and content.
use Rattle.std.specs.Prelude.{◌≡◌, ℕ, List}
use Rattle.text_box_read.specs.declared.TextBoxPane.{TextBoxPane}
use Rattle.text_box_parts.specs.Parts.{text_part, label_part, line_part}

-- a text box with its lists and its label
pub record Whole : Type 0 where
  pub box : TextBoxPane
  pub units : List ℕ
  pub lines : List ℕ
  pub label : List ℕ

pub record SameTextBox (a b : Whole) : Type 0 where
  pub buffer : a.box.text_buffer_size ≡ b.box.text_buffer_size
  pub long : a.box.text_length ≡ b.box.text_length
  pub material : a.box.material_index ≡ b.box.material_index
  pub font : a.box.font_index ≡ b.box.font_index
  pub origin : a.box.text_origin ≡ b.box.text_origin
  pub alignment : a.box.text_alignment ≡ b.box.text_alignment
  pub flags : a.box.text_flags ≡ b.box.text_flags
  pub tilt : a.box.italic_tilt ≡ b.box.italic_tilt
  pub top : a.box.font_top_color ≡ b.box.font_top_color
  pub bottom : a.box.font_bottom_color ≡ b.box.font_bottom_color
  pub measure : a.box.font_measure ≡ b.box.font_measure
  pub character : a.box.character_space ≡ b.box.character_space
  pub line : a.box.line_space ≡ b.box.line_space
  pub shadow_translation : a.box.shadow_translation ≡ b.box.shadow_translation
  pub shadow_size : a.box.shadow_size ≡ b.box.shadow_size
  pub shadow_top : a.box.shadow_top_color ≡ b.box.shadow_top_color
  pub shadow_bottom : a.box.shadow_bottom_color ≡ b.box.shadow_bottom_color
  pub shadow_tilt : a.box.shadow_italic_tilt ≡ b.box.shadow_italic_tilt
  pub text : text_part a.box.text a.units ≡ text_part b.box.text b.units
  pub name : label_part a.box.label a.label ≡ label_part b.box.label b.label
  pub table : line_part a.box.line_table a.lines ≡ line_part b.box.line_table b.lines
