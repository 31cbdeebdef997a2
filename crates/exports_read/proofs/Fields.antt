-- The fields that are read from bytes are as the types of the code say.
use mathlib.Core.Path.{refl}
use Prim.Native.Nat.{ℕ, ◌<◌}
use native.Mathlib.Omega.{arith}
use mathlib.Core.Bool.{Bool, not, ◌&&◌}
use mathlib.Core.List.{List}
use lib.Dec.{eqb}
use mir.Syntax.{w16}
use mir.Val.{SFits}
use Rattle.core_read.proofs.TwosComplement.{signed_fits}
use Rattle.core_read.specs.Bytes.{signed_of}
use Rattle.core_read.specs.Taken.{number_taken, fixed_string_taken, Place}
use Rattle.core_read.specs.Taken.{Taken}
use Rattle.core_read.specs.declared.cursor.ByteOrder.{ByteOrder}
use Rattle.flags.specs.Fields.{flag_ex_of}
use Rattle.flags.specs.declared.text.FontMeasureKind.{FontMeasureKind}
use Rattle.flags.specs.declared.text.FontMeasureKind.TheVariants.{Size, Scale}
use Rattle.ui2d.specs.Parts.{vector2_taken, vector3_taken, color_taken, colors_taken}
use Rattle.ui2d.specs.Typed.{TypedVector2, TypedVector3, TypedColor, TypedColors}
use Rattle.ui2d.specs.declared.Vector2f.{Vector2f}
use Rattle.pane_read.specs.Pane.{pane_taken}
use Rattle.pane_read.specs.Typed.{TypedPane}
use Rattle.pane_read.specs.declared.Pane.{Pane}
use Rattle.picture_fields.specs.Picture.{shape_taken, picture_taken, ShapeIndex}
use Rattle.picture_fields.specs.Typed.{TypedPicture, TypedShape}
use Rattle.text_box_fixed.specs.Fixed.{head_taken, font_taken, shadow_taken}
use Rattle.text_box_parts.specs.Parts.{lines_at, lines_taken}
use Rattle.text_box_parts.specs.declared.parts.LinesFound.{LinesFound}
use Rattle.text_box_read.specs.TextBox.{font_measure_of, assembled, text_box_taken}
use Rattle.text_box_read.specs.Typed.{TypedTextBox, TypedMeasure}
use Rattle.text_box_read.specs.declared.TextBoxPane.{TextBoxPane}
use Rattle.window_head.specs.Head.{sides_taken, head_taken as windowHead}
use Rattle.window_read.specs.Window.{content_taken, window_of, window_taken}
use Rattle.window_read.specs.Typed.{TypedWindow}
use Rattle.window_read.specs.declared.WindowPane.{WindowPane}
use Rattle.alignment_fields.specs.Alignment.{alignment_taken, TypedAlignment}
use Rattle.strip_records.specs.Typed.{Below}
use Rattle.flat_records.specs.Typed.{TypedLines}
use Rattle.exports_read.proofs.Bytes.{either, taken_below, taken_text, text_below, text_long}

-- what TypedWords asks of a base, of a text box and of a window
pub record TypedBase (b : Pane) : Type 0 where
  pub pane : TypedPane b
  pub name : Below 256 b.pane_name.bytes
  pub user : Below 256 b.user_name.bytes

pub record TypedTexts (x : TextBoxPane) : Type 0 where
  pub own : TypedTextBox x
  pub lines : TypedLines x.line_table

pub record TypedFrames (x : WindowPane) : Type 0 where
  pub own : TypedWindow x
  pub frames : x.frame_count < 256
  pub quads : x.content.quad_count < 256

module _ (order : ByteOrder) (s : List ℕ) (h : Below 256 s) where
  -- ---- vectors and colours

  vector2_typed : (p : Place) → TypedVector2 (vector2_taken order s p).value
  unfolding vector2_taken
  vector2_typed p = record { x = taken_below order 4 s _ h; y = taken_below order 4 s _ h }

  vector3_typed : (p : Place) → TypedVector3 (vector3_taken order s p).value
  unfolding vector3_taken
  vector3_typed p = record { x = taken_below order 4 s _ h; y = taken_below order 4 s _ h; z = taken_below order 4 s _ h }

  color_typed : (p : Place) → TypedColor (color_taken order s p).value
  unfolding color_taken
  color_typed p = record { r = taken_below order 1 s _ h; g = taken_below order 1 s _ h; b = taken_below order 1 s _ h; a = taken_below order 1 s _ h }

  colors_typed : (p : Place) → TypedColors (colors_taken order s p).value
  unfolding colors_taken
  colors_typed p = record {
    four = refl;
    top_left = color_typed _;
    top_right = color_typed _;
    bottom_left = color_typed _;
    bottom_right = color_typed _;
  }

  -- ---- the base

  reserve_typed : (raw : ℕ) → (flag_ex_of raw).reserve0 < 256
  unfolding flag_ex_of
  reserve_typed raw = omega arith

  pub base_typed : (p : Place) → TypedBase (pane_taken order s p).value
  unfolding pane_taken fixed_string_taken
  base_typed p = record {
    pane = record {
      alpha = taken_below order 1 s _ h;
      reserve = reserve_typed _;
      name = text_long 24 _ (taken_text 24 s _ h);
      user = text_long 8 _ (taken_text 8 s _ h);
      translation = vector3_typed _;
      rotation = vector3_typed _;
      scale = vector2_typed _;
      size = vector2_typed _;
    };
    name = text_below 24 _ (taken_text 24 s _ h);
    user = text_below 8 _ (taken_text 8 s _ h);
  }

  -- ---- pic1

  shape_typed : (p : Place) (byte : ℕ) → TypedShape (shape_taken order s p byte).value
  unfolding shape_taken
  shape_typed p byte = either (λ (t : Taken ShapeIndex). TypedShape t.value) (eqb byte 0) _ _ tt (taken_below order 4 s p h)

  pub picture_typed : (p : Place) → TypedPicture (picture_taken order s p).value.picture
  unfolding picture_taken
  picture_typed p = record {
    colors = colors_typed _;
    material = taken_below order 2 s _ h;
    shape = shape_typed _ _;
    count = taken_below order 1 s _ h;
  }

  -- ---- txt1

  measure_typed : (k : FontMeasureKind) (v : Vector2f) → TypedVector2 v → TypedMeasure (font_measure_of k v)
  measure_typed Size v t = t
  measure_typed Scale v t = t

  font_typed : (p : Place) → TypedVector2 (font_taken order s p).value.measure
  unfolding font_taken
  font_typed p = vector2_typed _

  lines_typed : (p : Place) (body : ℕ) (line : Bool) (offset : ℕ) → TypedLines (lines_taken order s p body line offset).value.table
  unfolding lines_taken lines_at
  lines_typed p body line offset = either (λ (t : Taken LinesFound). TypedLines t.value.table) (line && not (eqb offset 0)) _ _ (taken_below order 1 s _ h) tt

  pub text_box_typed : (p : Place) (body : ℕ) → TypedTexts (text_box_taken order s p body).value.text_box
  unfolding text_box_taken assembled head_taken font_taken shadow_taken
  text_box_typed p body = record {
    own = record {
      buffer = taken_below order 2 s _ h;
      long = taken_below order 2 s _ h;
      material = taken_below order 2 s _ h;
      font = taken_below order 2 s _ h;
      tilt = taken_below order 4 s _ h;
      top = color_typed _;
      bottom = color_typed _;
      measure = measure_typed (head_taken order s p).value.word.measure (font_taken order s (head_taken order s p).then).value.measure (font_typed (head_taken order s p).then);
      character = taken_below order 4 s _ h;
      line = taken_below order 4 s _ h;
      shadow_translation = vector2_typed _;
      shadow_size = vector2_typed _;
      shadow_top = color_typed _;
      shadow_bottom = color_typed _;
      shadow_tilt = taken_below order 4 s _ h;
    };
    lines = lines_typed _ _ _ _;
  }

  -- ---- wnd1

  side_typed : (p : Place) → SFits w16 (signed_of (number_taken order 2 s p).value)
  side_typed p = signed_fits (number_taken order 2 s p).value (taken_below order 2 s p h)

  pub window_typed : (p : Place) (body : ℕ) → TypedFrames (window_taken order s p body).value.window
  unfolding window_taken window_of windowHead sides_taken content_taken
  window_typed p body = record {
    own = record {
      inflation_left = side_typed _;
      inflation_right = side_typed _;
      inflation_top = side_typed _;
      inflation_bottom = side_typed _;
      frame_size_left = side_typed _;
      frame_size_right = side_typed _;
      frame_size_top = side_typed _;
      frame_size_bottom = side_typed _;
      colors = colors_typed _;
      material = taken_below order 2 s _ h;
    };
    frames = taken_below order 1 s _ h;
    quads = taken_below order 1 s _ h;
  }

  -- ---- ali1

  pub alignment_typed : (p : Place) → TypedAlignment (alignment_taken order s p).value
  unfolding alignment_taken
  alignment_typed p = record { direction = taken_below order 4 s _ h; margin = taken_below order 4 s _ h }
