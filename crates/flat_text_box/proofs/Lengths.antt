-- How many words the parts of a text box have and where they end.
use mathlib.Core.Path.{◌≡◌, refl}
use Prim.Native.Nat.{◌+◌}
use native.Mathlib.Omega.{arith}
use mathlib.Core.List.{[], ◌∷◌, ◌++◌}
use lib.ListN.{length, length-append}
use Rattle.floats.specs.declared.Binary32.{Binary32}
use Rattle.text_box_read.specs.declared.FontMeasure.{FontMeasure}
use Rattle.text_box_read.specs.declared.FontMeasure.TheVariants as measure
use Rattle.text_box_parts.specs.declared.Text.{Text}
use Rattle.text_box_parts.specs.declared.Text.TheVariants as text
use Rattle.text_box_read.specs.declared.TextBoxPane.{TextBoxPane}
use Rattle.flat.specs.Words.{color_words}
use Rattle.flat_text_box.specs.TextBox.{measure_words, font_words, shadow_words, text_words, label_words, lines_words, parts_words, text_box_words}
use Rattle.text_box_parts.specs.Parts.{Label, LineTable}
use Rattle.std.specs.Prelude.{None, Some}

pub measure_end : (m : FontMeasure) → 83 + length (measure_words m) ≡ 86
measure_end (measure.Size v) = refl
measure_end (measure.Scale v) = refl

pub font_end : (x : TextBoxPane) → 83 + length (font_words x) ≡ 95
font_end x =
    let e = measure_end x.font_measure in
    omega (arith, e, length-append (measure_words x.font_measure) ((x.italic_tilt.bits ∷ []) ++ (color_words x.font_top_color ++ color_words x.font_bottom_color)))

pub text_end : (tilt : Binary32) (x : Text) → 109 + length (text_words tilt x) ≡ 111
text_end tilt text.Absent = refl
text_end tilt text.Present = refl

pub label_end : (x : Label) → 111 + length (label_words x) ≡ 114
label_end None = refl
label_end (Some span) = refl

pub lines_long : (x : LineTable) → length (lines_words x) ≡ 2
lines_long None = refl
lines_long (Some count) = refl

parts_long : (x : TextBoxPane) → length (parts_words x) ≡ 7
parts_long x =
    let e = length-append (text_words x.shadow_italic_tilt x.text) (label_words x.label ++ lines_words x.line_table) in
    let f = length-append (label_words x.label) (lines_words x.line_table) in
    omega (arith, e, f, text_end x.shadow_italic_tilt x.text, label_end x.label, lines_long x.line_table)

pub text_box_long : (x : TextBoxPane) → length (text_box_words x) ≡ 54
unfolding text_box_words
text_box_long x =
    let e = length-append (font_words x) (shadow_words x ++ parts_words x) in
    omega (arith, e, font_end x, parts_long x)
