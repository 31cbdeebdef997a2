-- A text box and a window, read back from their words.
use mathlib.Core.Path.{◌≡◌, refl, ap, ◌∙◌}
use Prim.Native.Nat.{ℕ, ◌+◌, ◌<◌}
use native.Mathlib.Omega.{arith}
use mathlib.Core.List.{List, [], ◌∷◌, ◌++◌}
use lib.ListN.{length, get_or}
use Rattle.core_read.proofs.Back.{Holds, split}
use lib.IntN.{ℤ}
use mir.Syntax.{w16}
use mir.Val.{SFits}
use Rattle.core_read.specs.Bytes.{bits_of, signed_of}
use Rattle.core_read.proofs.TwosComplement.{bits_fit, signed_bits}
use Rattle.flags.specs.Enums.{alignment_of, alignment_number, window_kind_of, window_kind_number}
use Rattle.flags.specs.declared.text.TextPaneFlags.{TextPaneFlags}
use Rattle.flags.specs.declared.window.WindowFlags.{WindowFlags}
use Rattle.flags.proofs.Enums.{alignment_back, alignment_le, window_kind_back, window_kind_le}
use Rattle.floats.specs.declared.Binary32.{Binary32}
use Rattle.text_box_read.specs.Typed.{TypedTextBox, TypedMeasure}
use Rattle.text_box_read.specs.declared.FontMeasure.{FontMeasure}
use Rattle.text_box_read.specs.declared.FontMeasure.TheVariants as measure
use Rattle.text_box_parts.specs.declared.Text.{Text}
use Rattle.text_box_parts.specs.declared.Text.TheVariants as text
use Rattle.text_box_read.specs.declared.TextBoxPane.{TextBoxPane}
use Rattle.window_read.specs.Typed.{TypedWindow}
use Rattle.window_read.specs.declared.WindowPane.{WindowPane}
use Rattle.flat.specs.Words.{color_words, colors_words, byte_at, half_at, float_at}
use Rattle.flat_kinds.specs.Own.{inflation_words, frame_size_words, window_flags_words, content_words, window_words, side_at, window_flags_at, window_at}
use Rattle.flat_text_box.specs.TextBox.{indices_words, text_flags_words, measure_words, font_words, shadow_words, text_words, label_words, lines_words, parts_words, text_box_words, origin_at, text_flags_at, measure_at, text_at, label_at, lines_at, text_box_at}
use Rattle.flat_records.specs.Typed.{TypedLines}
use Rattle.flat_records.proofs.BackParts.{nth, flag_nth, byte_nth, half_nth, float_nth, horizontal_nth, vertical_nth, vector2_nth, color_back, colors_back}
use Rattle.flat_text_box.proofs.Lengths.{measure_end, font_end, text_end, label_end}
use Rattle.text_box_parts.specs.Parts.{Label, LineTable}
use Rattle.std.specs.Prelude.{None, Some}

module _ {w : List ℕ} where
  -- ---- txt1

  origin_back : (x : TextBoxPane) → Holds w 62 (indices_words x) → origin_at w ≡ x.text_origin
  origin_back x a =
      let ws = indices_words x in
      rw (horizontal_nth ws a 4 x.text_origin.horizontal (omega arith) refl, vertical_nth ws a 5 x.text_origin.vertical (omega arith) refl)

  text_alignment_back : (x : TextBoxPane) → Holds w 62 (indices_words x) → alignment_of (byte_at w 68) ≡ x.text_alignment
  text_alignment_back x a =
      ap alignment_of (byte_nth (indices_words x) a 6 (alignment_number x.text_alignment) (omega arith) refl (omega (arith, alignment_le x.text_alignment))) ∙ alignment_back x.text_alignment

  text_flags_back : (f : TextPaneFlags) → Holds w 69 (text_flags_words f) → text_flags_at w ≡ f
  text_flags_back f a =
      let ws = text_flags_words f in
      rw (flag_nth ws a 0 f.is_enable_shadow (omega arith) refl, flag_nth ws a 1 f.is_limit_glyph_count_to_length (omega arith) refl, flag_nth ws a 2 f.is_invisible_border (omega arith) refl, flag_nth ws a 3 f.is_double_border (omega arith) refl, flag_nth ws a 4 f.is_per_character_transform (omega arith) refl, flag_nth ws a 5 f.is_enable_center_ceiling (omega arith) refl, flag_nth ws a 6 f.is_line_transform (omega arith) refl)
      (rw (flag_nth ws a 7 f.is_default_tag_processor (omega arith) refl, flag_nth ws a 8 f.is_per_character_transform_split_by_char_width (omega arith) refl, flag_nth ws a 9 f.is_mix_shadow_alpha (omega arith) refl, flag_nth ws a 10 f.is_reverse (omega arith) refl, flag_nth ws a 11 f.is_per_character_transform_origin_to_center (omega arith) refl, flag_nth ws a 12 f.is_per_character_transform_fix_space (omega arith) refl, flag_nth ws a 13 f.is_per_character_transform_split_insert_space (omega arith) refl))

  measure_back : (m : FontMeasure) → TypedMeasure m → Holds w 83 (measure_words m) → measure_at w ≡ m
  measure_back (measure.Size v) t a =
      let ws = measure_words (measure.Size v) in
      rw (nth ws a 0 0 (omega arith) refl, vector2_nth ws a 1 v (omega arith) refl refl t)
  measure_back (measure.Scale v) t a =
      let ws = measure_words (measure.Scale v) in
      rw (nth ws a 0 1 (omega arith) refl, vector2_nth ws a 1 v (omega arith) refl refl t)

  text_back : (tilt : Binary32) (x : Text) → Holds w 109 (text_words tilt x) → text_at w ≡ x
  text_back tilt text.Absent a = rw (nth (text_words tilt text.Absent) a 1 0 (omega arith) refl)
  text_back tilt text.Present a = rw (nth (text_words tilt text.Present) a 1 1 (omega arith) refl)

  tilt_back : (tilt : Binary32) (x : Text) → tilt.bits < 4294967296 → Holds w 109 (text_words tilt x) → float_at w 109 ≡ tilt
  tilt_back tilt text.Absent h a = float_nth (text_words tilt text.Absent) a 0 tilt (omega arith) refl h
  tilt_back tilt text.Present h a = float_nth (text_words tilt text.Present) a 0 tilt (omega arith) refl h

  label_back : (x : Label) → Holds w 111 (label_words x) → label_at w ≡ x
  label_back None a = rw (nth (label_words None) a 0 0 (omega arith) refl)
  label_back (Some span) a =
      let ws = label_words (Some span) in
      rw (nth ws a 0 1 (omega arith) refl, nth ws a 1 span.place (omega arith) refl, nth ws a 2 span.length (omega arith) refl)

  lines_back : (x : LineTable) → TypedLines x → Holds w 114 (lines_words x) → lines_at w ≡ x
  lines_back None t a = rw (nth (lines_words None) a 0 0 (omega arith) refl)
  lines_back (Some n) t a =
      let ws = lines_words (Some n) in
      rw (nth ws a 0 1 (omega arith) refl, byte_nth ws a 1 n (omega arith) refl t)

  -- the sizes and indices
  indices_back : (x : TextBoxPane) → TypedTextBox x → Holds w 62 (indices_words x)
      → (half_at w 62 ≡ x.text_buffer_size) × (half_at w 63 ≡ x.text_length) × (half_at w 64 ≡ x.material_index) × (half_at w 65 ≡ x.font_index)
  indices_back x t a =
      let ws = indices_words x in
      (half_nth ws a 0 x.text_buffer_size (omega arith) refl t.buffer, half_nth ws a 1 x.text_length (omega arith) refl t.long, half_nth ws a 2 x.material_index (omega arith) refl t.material, half_nth ws a 3 x.font_index (omega arith) refl t.font)

  pub text_box_back : (x : TextBoxPane) → TypedTextBox x → TypedLines x.line_table → Holds w 62 (text_box_words x) → text_box_at w ≡ x
  unfolding text_box_words text_box_at
  text_box_back x t tl a =
      let ps = parts_words x in
      let ss = x.character_space.bits ∷ x.line_space.bits ∷ x.shadow_translation.x.bits ∷ x.shadow_translation.y.bits ∷ x.shadow_size.x.bits ∷ x.shadow_size.y.bits ∷ [] in
      let fc = color_words x.font_top_color ++ color_words x.font_bottom_color in
      let sc = color_words x.shadow_top_color ++ color_words x.shadow_bottom_color in
      let (a₁, r₁) = split (indices_words x) (text_flags_words x.text_flags ++ (font_words x ++ (shadow_words x ++ ps))) 7 refl a in
      let (a₂, r₂) = split (text_flags_words x.text_flags) (font_words x ++ (shadow_words x ++ ps)) 14 refl r₁ in
      let (a₃, r₃) = split (font_words x) (shadow_words x ++ ps) 12 (omega (arith, font_end x)) r₂ in
      let (a₄, r₄) = split (shadow_words x) ps 14 refl r₃ in
      let (m, r₅) = split (measure_words x.font_measure) ((x.italic_tilt.bits ∷ []) ++ fc) 3 (omega (arith, measure_end x.font_measure)) a₃ in
      let (i, r₆) = split (x.italic_tilt.bits ∷ []) fc 1 refl r₅ in
      let (ft, fb) = split (color_words x.font_top_color) (color_words x.font_bottom_color) 4 refl r₆ in
      let (s, r₇) = split ss sc 6 refl a₄ in
      let (st, sb) = split (color_words x.shadow_top_color) (color_words x.shadow_bottom_color) 4 refl r₇ in
      let (p₁, r₈) = split (text_words x.shadow_italic_tilt x.text) (label_words x.label ++ lines_words x.line_table) 2 (omega (arith, text_end x.shadow_italic_tilt x.text)) r₄ in
      let (p₂, p₃) = split (label_words x.label) (lines_words x.line_table) 3 (omega (arith, label_end x.label)) r₈ in
      let (i₀, i₁, i₂, i₃) = indices_back x t a₁ in
      rw (
        i₀,
        i₁,
        i₂,
        i₃,
        origin_back x a₁,
        text_alignment_back x a₁,
        text_flags_back x.text_flags a₂,
        float_nth (x.italic_tilt.bits ∷ []) i 0 x.italic_tilt (omega arith) refl t.tilt,
        color_back x.font_top_color t.top ft,
        color_back x.font_bottom_color t.bottom fb,
        measure_back x.font_measure t.measure m,
      )
      (rw (
        float_nth ss s 0 x.character_space (omega arith) refl t.character,
        float_nth ss s 1 x.line_space (omega arith) refl t.line,
        vector2_nth ss s 2 x.shadow_translation (omega arith) refl refl t.shadow_translation,
        vector2_nth ss s 4 x.shadow_size (omega arith) refl refl t.shadow_size,
        color_back x.shadow_top_color t.shadow_top st,
        color_back x.shadow_bottom_color t.shadow_bottom sb,
        tilt_back x.shadow_italic_tilt x.text t.shadow_tilt p₁,
        text_back x.shadow_italic_tilt x.text p₁,
        label_back x.label p₂,
        lines_back x.line_table tl p₃,
      ))

  -- ---- wnd1

  side_nth : {p : ℕ} (xs : List ℕ) → Holds w p xs → (i : ℕ) (z : ℤ) → i < length xs → get_or xs i 0 ≡ bits_of z → SFits w16 z → side_at w (p + i) ≡ z
  side_nth xs a i z h e f = ap signed_of (half_nth xs a i (bits_of z) h e (bits_fit z f)) ∙ signed_bits z f

  window_flags_back : (f : WindowFlags) (n : ℕ) → Holds w 70 (window_flags_words f n) → window_flags_at w ≡ f
  window_flags_back f n a =
      let ws = window_flags_words f n in
      let k = ap window_kind_of (byte_nth ws a 2 (window_kind_number f.window_kind) (omega arith) refl (omega (arith, window_kind_le f.window_kind))) ∙ window_kind_back f.window_kind in
      rw (flag_nth ws a 0 f.use_left_corner_material (omega arith) refl, flag_nth ws a 1 f.use_vertex_color_for_all_window (omega arith) refl, k, flag_nth ws a 3 f.not_draw_content (omega arith) refl)

  pub window_back : (x : WindowPane) → TypedWindow x → x.frame_count < 256 → x.content.quad_count < 256 → Holds w 62 (window_words x) → window_at w ≡ x
  unfolding window_words window_at
  window_back x t kf kq a =
      let is = inflation_words x in
      let fs = frame_size_words x in
      let ws = window_flags_words x.flag x.frame_count in
      let ms = x.content.material_index ∷ x.content.quad_count ∷ [] in
      let (a₁, r₁) = split is (fs ++ (ws ++ content_words x.content)) 4 refl a in
      let (a₂, r₂) = split fs (ws ++ content_words x.content) 4 refl r₁ in
      let (a₃, r₃) = split ws (content_words x.content) 5 refl r₂ in
      let (a₄, a₅) = split (colors_words x.content.vertex_colors) ms 16 refl r₃ in
      rw (
        side_nth is a₁ 0 x.inflation_left (omega arith) refl t.inflation_left,
        side_nth is a₁ 1 x.inflation_right (omega arith) refl t.inflation_right,
        side_nth is a₁ 2 x.inflation_top (omega arith) refl t.inflation_top,
        side_nth is a₁ 3 x.inflation_bottom (omega arith) refl t.inflation_bottom,
        side_nth fs a₂ 0 x.frame_size_left (omega arith) refl t.frame_size_left,
        side_nth fs a₂ 1 x.frame_size_right (omega arith) refl t.frame_size_right,
        side_nth fs a₂ 2 x.frame_size_top (omega arith) refl t.frame_size_top,
        side_nth fs a₂ 3 x.frame_size_bottom (omega arith) refl t.frame_size_bottom,
      )
      (rw (
        window_flags_back x.flag x.frame_count a₃,
        byte_nth ws a₃ 4 x.frame_count (omega arith) refl kf,
        colors_back x.content.vertex_colors t.colors a₄,
        half_nth ms a₅ 0 x.content.material_index (omega arith) refl t.material,
        byte_nth ms a₅ 1 x.content.quad_count (omega arith) refl kq,
      ))
