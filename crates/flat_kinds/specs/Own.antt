-- The words that each kind but the text box has beyond the base, from OWN on, and back. Places are those of layout.rt.
use Rattle.std.specs.Prelude.{ℕ, cond, List, [], ◌∷◌, ◌++◌, ℤ, None, Some}
use Rattle.core_read.specs.Bytes.{signed_of, bits_of}
use Rattle.flags.specs.Enums.{window_kind_of, window_kind_number}
use Rattle.flags.specs.declared.window.WindowFlags.{WindowFlags}
use Rattle.picture_fields.specs.declared.PicturePane.{PicturePane}
use Rattle.window_read.specs.declared.WindowContent.{WindowContent}
use Rattle.window_read.specs.declared.WindowPane.{WindowPane}
use Rattle.alignment_fields.specs.declared.AlignmentPane.{AlignmentPane}
use Rattle.flat.specs.Words.{flag_word, colors_words, byte_at, half_at, word_at, flag_at, float_at, colors_at, option_words}
use Rattle.picture_fields.specs.Picture.{ShapeIndex}

-- ---- pic1

-- SHAPE_PRESENT, SHAPE_INDEX
abbrev pub shape_words : ShapeIndex → List ℕ
shape_words x = option_words (λ i. i) x

-- PICTURE_COLORS, PICTURE_MATERIAL, PICTURE_QUADS, and the shape
unfoldable pub picture_words : PicturePane → List ℕ
picture_words x =
    colors_words x.vertex_colors ++ ((x.material_index ∷ x.quad_count ∷ []) ++ shape_words x.shape_info_array_index)

abbrev pub shape_at : List ℕ → ShapeIndex
shape_at w = cond (flag_at w 80) (Some (word_at w 81)) None

-- the count by its low eight bits, whatever its word is: a write does not read it
unfoldable pub picture_at : List ℕ → PicturePane
picture_at w = record {
  vertex_colors = colors_at w 62;
  material_index = half_at w 78;
  shape_info_array_index = shape_at w;
  quad_count = byte_at w 79;
}

-- ---- wnd1

-- INFLATION; FRAME_SIZE: left, right, top, bottom, the 16 bits of each
abbrev pub inflation_words : WindowPane → List ℕ
inflation_words x = bits_of x.inflation_left ∷ bits_of x.inflation_right ∷ bits_of x.inflation_top ∷ bits_of x.inflation_bottom ∷ []

abbrev pub frame_size_words : WindowPane → List ℕ
frame_size_words x = bits_of x.frame_size_left ∷ bits_of x.frame_size_right ∷ bits_of x.frame_size_top ∷ bits_of x.frame_size_bottom ∷ []

-- WINDOW_FLAGS, WINDOW_KIND, NOT_DRAW_CONTENT, FRAMES_COUNT
abbrev pub window_flags_words : WindowFlags → ℕ → List ℕ
window_flags_words f frames =
    flag_word f.use_left_corner_material
    ∷ flag_word f.use_vertex_color_for_all_window
    ∷ window_kind_number f.window_kind
    ∷ flag_word f.not_draw_content
    ∷ frames
    ∷ []

-- CONTENT_COLORS, CONTENT_MATERIAL, CONTENT_QUADS
abbrev pub content_words : WindowContent → List ℕ
content_words x = colors_words x.vertex_colors ++ (x.material_index ∷ x.quad_count ∷ [])

unfoldable pub window_words : WindowPane → List ℕ
window_words x = inflation_words x ++ (frame_size_words x ++ (window_flags_words x.flag x.frame_count ++ content_words x.content))

abbrev pub side_at : List ℕ → ℕ → ℤ
side_at w i = signed_of (half_at w i)

abbrev pub window_flags_at : List ℕ → WindowFlags
window_flags_at w = record {
  use_left_corner_material = flag_at w 70;
  use_vertex_color_for_all_window = flag_at w 71;
  window_kind = window_kind_of (byte_at w 72);
  not_draw_content = flag_at w 73;
}

-- the counts by their low eight bits, whatever their words are: a write does not read them
abbrev pub content_at : List ℕ → WindowContent
content_at w = record { vertex_colors = colors_at w 75; material_index = half_at w 91; quad_count = byte_at w 92 }

unfoldable pub window_at : List ℕ → WindowPane
window_at w = record {
  inflation_left = side_at w 62;
  inflation_right = side_at w 63;
  inflation_top = side_at w 64;
  inflation_bottom = side_at w 65;
  frame_size_left = side_at w 66;
  frame_size_right = side_at w 67;
  frame_size_top = side_at w 68;
  frame_size_bottom = side_at w 69;
  flag = window_flags_at w;
  frame_count = byte_at w 74;
  content = content_at w;
}

-- ---- ali1

-- DIRECTION, DEFAULT_MARGIN, IS_ALIGN_LAST_PANE, IS_VERTICAL_ALIGNMENT
abbrev pub alignment_words : AlignmentPane → List ℕ
alignment_words x = x.direction ∷ x.default_margin.bits ∷ flag_word x.is_align_last_pane ∷ flag_word x.is_vertical_alignment ∷ []

abbrev pub alignment_at : List ℕ → AlignmentPane
alignment_at w = record {
  direction = word_at w 62;
  default_margin = float_at w 63;
  is_align_last_pane = flag_at w 64;
  is_vertical_alignment = flag_at w 65;
}
