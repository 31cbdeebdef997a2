-- What the types of the code guarantee of a text box.
use Rattle.std.specs.Prelude.{◌^◌, ◌<◌}
use Rattle.ui2d.specs.Typed.{TypedVector2, TypedColor}
use Rattle.text_box_read.specs.TextBox.{measure_vector}
use Rattle.text_box_read.specs.declared.FontMeasure.{FontMeasure}
use Rattle.text_box_read.specs.declared.TextBoxPane.{TextBoxPane}

abbrev pub TypedMeasure : FontMeasure → Type 0
TypedMeasure m = TypedVector2 (measure_vector m)

pub record TypedTextBox (x : TextBoxPane) : Type 0 where
  pub buffer : x.text_buffer_size < 256 ^ 2
  pub long : x.text_length < 256 ^ 2
  pub material : x.material_index < 256 ^ 2
  pub font : x.font_index < 256 ^ 2
  pub tilt : x.italic_tilt.bits < 256 ^ 4
  pub top : TypedColor x.font_top_color
  pub bottom : TypedColor x.font_bottom_color
  pub measure : TypedMeasure x.font_measure
  pub character : x.character_space.bits < 256 ^ 4
  pub line : x.line_space.bits < 256 ^ 4
  pub shadow_translation : TypedVector2 x.shadow_translation
  pub shadow_size : TypedVector2 x.shadow_size
  pub shadow_top : TypedColor x.shadow_top_color
  pub shadow_bottom : TypedColor x.shadow_bottom_color
  pub shadow_tilt : x.shadow_italic_tilt.bits < 256 ^ 4
