-- THE LAW: the words of a record that the types describe pass the test for bounds.
use mathlib.Core.Path.{◌≡◌, refl, ap, ◌∙◌}
use Prim.Native.Nat.{ℕ, ◌≤◌, ◌<◌}
use native.Mathlib.Omega.{arith}
use mathlib.Core.List.{List, [], ◌∷◌, ◌++◌}
use lib.ListN.{length}
use Rattle.core_read.proofs.Back.{Holds, split}
use Rattle.core_read.proofs.TwosComplement.{bits_fit}
use Rattle.core_read.specs.Bytes.{splice}
use Rattle.flags.specs.Enums.{horizontal_number, vertical_number, alignment_number, window_kind_number}
use Rattle.flags.specs.declared.pane.PaneFlags.{PaneFlags}
use Rattle.flags.specs.declared.pane.PaneFlagsEx.{PaneFlagsEx}
use Rattle.flags.specs.declared.position.BflytPosition.{BflytPosition}
use Rattle.flags.specs.declared.text.TextPaneFlags.{TextPaneFlags}
use Rattle.flags.proofs.Enums.{horizontal_le, vertical_le, alignment_le, window_kind_le}
use Rattle.floats.specs.declared.Binary32.{Binary32}
use Rattle.ui2d.specs.Typed.{TypedVector2, TypedVector3}
use Rattle.ui2d.specs.declared.Vector2f.{Vector2f}
use Rattle.ui2d.specs.declared.Vector3f.{Vector3f}
use Rattle.pane_read.specs.Typed.{TypedPane}
use Rattle.pane_read.specs.declared.Pane.{Pane}
use Rattle.picture_fields.specs.Typed.{TypedPicture, TypedShape}
use Rattle.picture_fields.specs.declared.PicturePane.{PicturePane}
use Rattle.text_box_read.specs.Typed.{TypedTextBox, TypedMeasure}
use Rattle.text_box_read.specs.declared.FontMeasure.{FontMeasure}
use Rattle.text_box_read.specs.declared.FontMeasure.TheVariants as measure
use Rattle.text_box_parts.specs.declared.Text.{Text}
use Rattle.text_box_parts.specs.declared.Text.TheVariants as text
use Rattle.text_box_read.specs.declared.TextBoxPane.{TextBoxPane}
use Rattle.window_read.specs.Typed.{TypedWindow}
use Rattle.window_read.specs.declared.WindowPane.{WindowPane}
use Rattle.alignment_fields.specs.Alignment.{TypedAlignment}
use Rattle.alignment_fields.specs.declared.AlignmentPane.{AlignmentPane}
use Rattle.strip_records.specs.Typed.{Below}
use Rattle.strip_records.specs.declared.kind.Kind.{Kind}
use Rattle.strip_records.specs.declared.kind.Kind.TheVariants.{Pan1, Pic1, Txt1, Wnd1, Ali1}
use Rattle.strip_records.specs.declared.record.Record.{Record}
use Rattle.flat.specs.Words.{flag_word, color_words, colors_words}
use Rattle.flat.specs.Base.{pane_flags_words, position_words, flag_ex_words, name_words, user_words, transform_words, base_words}
use Rattle.flat_kinds.specs.Own.{shape_words, picture_words, inflation_words, frame_size_words, window_words, alignment_words}
use Rattle.flat_text_box.specs.TextBox.{indices_words, text_flags_words, measure_words, font_words, shadow_words, text_words, label_words, lines_words, parts_words, text_box_words}
use Rattle.flat_text_box.proofs.Lengths.{measure_end, font_end, text_end, label_end}
use Rattle.flat.proofs.Lengths.{base_long}
use Rattle.flat_records.specs.Records.{kind_number, kind_of, own_words, record_words}
use Rattle.flat_records.specs.Below.{Checked, good, base_bounds, picture_bounds, font_bounds, shadow_bounds, window_bounds, alignment_bounds, checked_by, own_checked, words_checked}
use Rattle.flat_records.specs.Typed.{TypedWords}
use Rattle.flat_records.proofs.BackParts.{nth}
use Rattle.flat_records.proofs.SameParts.{Scanned, AllScanned}
use Rattle.flat_records.proofs.Passing.{Small, none, more, both, flag_below, color_below, colors_below, held, joined, all_passed}
use Rattle.flat_records.proofs.Again.{kind_back, stands}
use Rattle.picture_fields.specs.Picture.{ShapeIndex}
use Rattle.text_box_parts.specs.Parts.{Label, LineTable}
use Rattle.std.specs.Prelude.{None, Some}

-- ---- numbers below their bounds

kind_below : (k : Kind) → kind_number k < 5
kind_below Pan1 = omega arith
kind_below Pic1 = omega arith
kind_below Txt1 = omega arith
kind_below Wnd1 = omega arith
kind_below Ali1 = omega arith

pane_flags_below : (f : PaneFlags) → Small 2 (pane_flags_words f)
pane_flags_below f =
    more (flag_below f.is_visible)
    (more (flag_below f.influenced_alpha)
    (more (flag_below f.location_adjust)
    (more (flag_below f.user_allocated)
    (more (flag_below f.is_global_matrix_dirty)
    (more (flag_below f.is_srt_matrix_user)
    (more (flag_below f.is_global_matrix_user)
    (more (flag_below f.is_constant_buffer_ready) none)))))))

text_flags_below : (f : TextPaneFlags) → Small 2 (text_flags_words f)
text_flags_below f =
    more (flag_below f.is_enable_shadow)
    (more (flag_below f.is_limit_glyph_count_to_length)
    (more (flag_below f.is_invisible_border)
    (more (flag_below f.is_double_border)
    (more (flag_below f.is_per_character_transform)
    (more (flag_below f.is_enable_center_ceiling)
    (more (flag_below f.is_line_transform)
    (more (flag_below f.is_default_tag_processor)
    (more (flag_below f.is_per_character_transform_split_by_char_width)
    (more (flag_below f.is_mix_shadow_alpha)
    (more (flag_below f.is_reverse)
    (more (flag_below f.is_per_character_transform_origin_to_center)
    (more (flag_below f.is_per_character_transform_fix_space)
    (more (flag_below f.is_per_character_transform_split_insert_space) none)))))))))))))

position_below : (g : BflytPosition) → Small 3 (position_words g)
position_below g =
    more (omega (arith, horizontal_le g.position_x))
    (more (omega (arith, vertical_le g.position_y))
    (more (omega (arith, horizontal_le g.parent_relative_position_x)) (more (omega (arith, vertical_le g.parent_relative_position_y)) none)))

transform_below : (t r : Vector3f) (c s : Vector2f) → TypedVector3 t → TypedVector3 r → TypedVector2 c → TypedVector2 s → Small 4294967296 (transform_words t r c s)
transform_below t r c s kt kr kc ks =
    more kt.x (more kt.y (more kt.z (more kr.x (more kr.y (more kr.z (more kc.x (more kc.y (more ks.x (more ks.y none)))))))))

sides_below : (x : WindowPane) → TypedWindow x → Small 65536 (inflation_words x ++ frame_size_words x)
sides_below x t =
    more (bits_fit x.inflation_left t.inflation_left)
    (more (bits_fit x.inflation_right t.inflation_right)
    (more (bits_fit x.inflation_top t.inflation_top)
    (more (bits_fit x.inflation_bottom t.inflation_bottom)
    (more (bits_fit x.frame_size_left t.frame_size_left)
    (more (bits_fit x.frame_size_right t.frame_size_right)
    (more (bits_fit x.frame_size_top t.frame_size_top) (more (bits_fit x.frame_size_bottom t.frame_size_bottom) none)))))))

-- ---- the words of each part, where they stand

module _ {w : List ℕ} where
  flag_ex_passed : (alpha : ℕ) (x : PaneFlagsEx) → alpha < 256 → x.reserve0 < 256 → Holds w 13 (flag_ex_words alpha x) → Scanned w 13 1 256 × Scanned w 14 3 2 × Scanned w 17 1 256
  flag_ex_passed alpha x ka kr a =
      let fs = flag_word x.is_no_scale_by_parts ∷ flag_word x.is_scale_size_by_parts_root ∷ flag_word x.is_ext_user_data ∷ [] in
      let (a₁, r) = split (alpha ∷ []) (fs ++ (x.reserve0 ∷ [])) 1 refl a in
      let (a₂, a₃) = split fs (x.reserve0 ∷ []) 3 refl r in
      let kf = more (flag_below x.is_no_scale_by_parts) (more (flag_below x.is_scale_size_by_parts_root) (more (flag_below x.is_ext_user_data) none)) in
      (held (alpha ∷ []) refl (more ka none) a₁, held fs refl kf a₂, held (x.reserve0 ∷ []) refl (more kr none) a₃)

  base_passed : (k : Kind) (b : Pane) → TypedPane b → Below 256 b.pane_name.bytes → Below 256 b.user_name.bytes → Holds w 0 (kind_number k ∷ []) → Holds w 1 (base_words b)
      → AllScanned base_bounds w
  unfolding base_words
  base_passed k b t kn ku a₀ a =
      let ts = transform_words b.translation b.rotation b.scale b.size in
      let fx = flag_ex_words b.alpha b.flag_ex in
      let (a₁, r₁) = split (pane_flags_words b.pane_flags) (position_words b.position ++ (fx ++ (name_words b.pane_name ++ (user_words b.user_name ++ ts)))) 8 refl a in
      let (a₂, r₂) = split (position_words b.position) (fx ++ (name_words b.pane_name ++ (user_words b.user_name ++ ts))) 4 refl r₁ in
      let (a₃, r₃) = split fx (name_words b.pane_name ++ (user_words b.user_name ++ ts)) 5 refl r₂ in
      let (a₄, r₄) = split (name_words b.pane_name) (user_words b.user_name ++ ts) 25 (omega (arith, t.name)) r₃ in
      let (a₅, a₆) = split (user_words b.user_name) ts 9 (omega (arith, t.user)) r₄ in
      let (x₁, x₂, x₃) = flag_ex_passed b.alpha b.flag_ex t.alpha t.reserve a₃ in
      let name = (split (b.pane_name.count ∷ []) b.pane_name.bytes 1 refl a₄).1 in
      let user = (split (b.user_name.count ∷ []) b.user_name.bytes 1 refl a₅).1 in (
        held (kind_number k ∷ []) refl (more (kind_below k) none) a₀,
        (
          held (pane_flags_words b.pane_flags) refl (pane_flags_below b.pane_flags) a₁,
          (
            held (position_words b.position) refl (position_below b.position) a₂,
            (
              x₁,
              (
                x₂,
                (
                  x₃,
                  (
                    held b.pane_name.bytes t.name (record { all = kn }) name,
                    (
                      held b.user_name.bytes t.user (record { all = ku }) user,
                      (
                        held ts refl (transform_below b.translation b.rotation b.scale b.size t.translation t.rotation t.scale t.size) a₆,
                        tt,
                      ),
                    ),
                  ),
                ),
              ),
            ),
          ),
        ),
      )

  -- ---- pic1

  shape_passed : (x : ShapeIndex) → TypedShape x → Holds w 80 (shape_words x) → Scanned w 80 1 2 × Scanned w 81 1 4294967296
  shape_passed None t a =
      let (a₁, a₂) = split (0 ∷ []) (0 ∷ []) 1 refl a in
      (held (0 ∷ []) refl (more (omega arith) none) a₁, held (0 ∷ []) refl (more (omega arith) none) a₂)
  shape_passed (Some i) t a =
      let (a₁, a₂) = split (1 ∷ []) (i ∷ []) 1 refl a in
      (held (1 ∷ []) refl (more (omega arith) none) a₁, held (i ∷ []) refl (more t none) a₂)

  picture_passed : (x : PicturePane) → TypedPicture x → Holds w 62 (picture_words x) → AllScanned picture_bounds w
  unfolding picture_words
  picture_passed x t a =
      let s = shape_words x.shape_info_array_index in
      let (a₁, r₁) = split (colors_words x.vertex_colors) ((x.material_index ∷ x.quad_count ∷ []) ++ s) 16 refl a in
      let (a₂, r₂) = split (x.material_index ∷ []) ((x.quad_count ∷ []) ++ s) 1 refl r₁ in
      let (a₃, a₄) = split (x.quad_count ∷ []) s 1 refl r₂ in
      let (s₁, s₂) = shape_passed x.shape_info_array_index t.shape a₄ in
      (held (colors_words x.vertex_colors) refl (colors_below x.vertex_colors t.colors) a₁, (held (x.material_index ∷ []) refl (more t.material none) a₂, (s₁, (s₂, tt))))

  -- ---- txt1

  indices_passed : (x : TextBoxPane) → TypedTextBox x → Holds w 62 (indices_words x) → Scanned w 62 4 65536 × Scanned w 66 2 3 × Scanned w 68 1 4
  indices_passed x t a =
      let is = x.text_buffer_size ∷ x.text_length ∷ x.material_index ∷ x.font_index ∷ [] in
      let os = horizontal_number x.text_origin.horizontal ∷ vertical_number x.text_origin.vertical ∷ [] in
      let al = alignment_number x.text_alignment in
      let (a₁, r) = split is (os ++ (al ∷ [])) 4 refl a in
      let (a₂, a₃) = split os (al ∷ []) 2 refl r in (
        held is refl (more t.buffer (more t.long (more t.material (more t.font none)))) a₁,
        held os refl (more (omega (arith, horizontal_le x.text_origin.horizontal)) (more (omega (arith, vertical_le x.text_origin.vertical)) none)) a₂,
        held (al ∷ []) refl (more (omega (arith, alignment_le x.text_alignment)) none) a₃,
      )

  measure_passed : (m : FontMeasure) → TypedMeasure m → Holds w 83 (measure_words m) → Scanned w 83 1 2 × Scanned w 84 2 4294967296
  measure_passed (measure.Size v) t a =
      let (a₁, a₂) = split (0 ∷ []) (v.x.bits ∷ v.y.bits ∷ []) 1 refl a in
      (held (0 ∷ []) refl (more (omega arith) none) a₁, held (v.x.bits ∷ v.y.bits ∷ []) refl (more t.x (more t.y none)) a₂)
  measure_passed (measure.Scale v) t a =
      let (a₁, a₂) = split (1 ∷ []) (v.x.bits ∷ v.y.bits ∷ []) 1 refl a in
      (held (1 ∷ []) refl (more (omega arith) none) a₁, held (v.x.bits ∷ v.y.bits ∷ []) refl (more t.x (more t.y none)) a₂)

  font_passed : (x : TextBoxPane) → TypedTextBox x → Holds w 62 (indices_words x) → Holds w 69 (text_flags_words x.text_flags) → Holds w 83 (font_words x) → AllScanned font_bounds w
  font_passed x t a f b =
      let fc = color_words x.font_top_color ++ color_words x.font_bottom_color in
      let (i₁, i₂, i₃) = indices_passed x t a in
      let (m, r) = split (measure_words x.font_measure) ((x.italic_tilt.bits ∷ []) ++ fc) 3 (omega (arith, measure_end x.font_measure)) b in
      let (i, c) = split (x.italic_tilt.bits ∷ []) fc 1 refl r in
      let (m₁, m₂) = measure_passed x.font_measure t.measure m in
      let kc = both (color_below x.font_top_color t.top) (color_below x.font_bottom_color t.bottom) in (
        i₁,
        (
          i₂,
          (
            i₃,
            (
              joined (held (text_flags_words x.text_flags) refl (text_flags_below x.text_flags) f) m₁,
              (
                joined m₂ (held (x.italic_tilt.bits ∷ []) refl (more t.tilt none) i),
                (
                  held fc refl kc c,
                  tt,
                ),
              ),
            ),
          ),
        ),
      )

  text_passed : (tilt : Binary32) (x : Text) → tilt.bits < 4294967296 → Holds w 109 (text_words tilt x) → Scanned w 109 1 4294967296 × Scanned w 110 1 2
  text_passed tilt text.Absent h a =
      let (a₁, a₂) = split (tilt.bits ∷ []) (0 ∷ []) 1 refl a in
      (held (tilt.bits ∷ []) refl (more h none) a₁, held (0 ∷ []) refl (more (omega arith) none) a₂)
  text_passed tilt text.Present h a =
      let (a₁, a₂) = split (tilt.bits ∷ []) (1 ∷ []) 1 refl a in
      (held (tilt.bits ∷ []) refl (more h none) a₁, held (1 ∷ []) refl (more (omega arith) none) a₂)

  label_passed : (x : Label) → Holds w 111 (label_words x) → Scanned w 111 1 2
  label_passed None a = held (0 ∷ []) refl (more (omega arith) none) (split (0 ∷ []) (0 ∷ 0 ∷ []) 1 refl a).0
  label_passed (Some span) a = held (1 ∷ []) refl (more (omega arith) none) (split (1 ∷ []) (span.place ∷ span.length ∷ []) 1 refl a).0

  lines_passed : (x : LineTable) → Holds w 114 (lines_words x) → Scanned w 114 1 2
  lines_passed None a = held (0 ∷ []) refl (more (omega arith) none) (split (0 ∷ []) (0 ∷ []) 1 refl a).0
  lines_passed (Some n) a = held (1 ∷ []) refl (more (omega arith) none) (split (1 ∷ []) (n ∷ []) 1 refl a).0

  shadow_passed : (x : TextBoxPane) → TypedTextBox x → Holds w 95 (shadow_words x) → Holds w 109 (parts_words x) → AllScanned shadow_bounds w
  shadow_passed x t a b =
      let ss = x.character_space.bits ∷ x.line_space.bits ∷ x.shadow_translation.x.bits ∷ x.shadow_translation.y.bits ∷ x.shadow_size.x.bits ∷ x.shadow_size.y.bits ∷ [] in
      let sc = color_words x.shadow_top_color ++ color_words x.shadow_bottom_color in
      let (s, c) = split ss sc 6 refl a in
      let (p₁, r) = split (text_words x.shadow_italic_tilt x.text) (label_words x.label ++ lines_words x.line_table) 2 (omega (arith, text_end x.shadow_italic_tilt x.text)) b in
      let (p₂, p₃) = split (label_words x.label) (lines_words x.line_table) 3 (omega (arith, label_end x.label)) r in
      let (t₁, t₂) = text_passed x.shadow_italic_tilt x.text t.shadow_tilt p₁ in
      let ks = more t.character (more t.line (more t.shadow_translation.x (more t.shadow_translation.y (more t.shadow_size.x (more t.shadow_size.y none))))) in
      let kc = both (color_below x.shadow_top_color t.shadow_top) (color_below x.shadow_bottom_color t.shadow_bottom) in
      (held ss refl ks s, (held sc refl kc c, (t₁, (joined t₂ (label_passed x.label p₂), (lines_passed x.line_table p₃, tt)))))

  text_box_passed : (x : TextBoxPane) → TypedTextBox x → Holds w 62 (text_box_words x) → AllScanned font_bounds w × AllScanned shadow_bounds w
  unfolding text_box_words
  text_box_passed x t a =
      let ps = parts_words x in
      let (a₁, r₁) = split (indices_words x) (text_flags_words x.text_flags ++ (font_words x ++ (shadow_words x ++ ps))) 7 refl a in
      let (a₂, r₂) = split (text_flags_words x.text_flags) (font_words x ++ (shadow_words x ++ ps)) 14 refl r₁ in
      let (a₃, r₃) = split (font_words x) (shadow_words x ++ ps) 12 (omega (arith, font_end x)) r₂ in
      let (a₄, a₅) = split (shadow_words x) ps 14 refl r₃ in
      (font_passed x t a₁ a₂ a₃, shadow_passed x t a₄ a₅)

  -- ---- wnd1

  window_passed : (x : WindowPane) → TypedWindow x → Holds w 62 (window_words x) → AllScanned window_bounds w
  unfolding window_words
  window_passed x t a =
      let fs = flag_word x.flag.use_left_corner_material ∷ flag_word x.flag.use_vertex_color_for_all_window ∷ [] in
      let kind = window_kind_number x.flag.window_kind in
      let draw = flag_word x.flag.not_draw_content in
      let cs = colors_words x.content.vertex_colors in
      let ms = x.content.material_index ∷ x.content.quad_count ∷ [] in
      let (a₁, r₁) = split (inflation_words x ++ frame_size_words x) (fs ++ (kind ∷ draw ∷ x.frame_count ∷ []) ++ (cs ++ ms)) 8 refl a in
      let (a₂, r₂) = split fs ((kind ∷ draw ∷ x.frame_count ∷ []) ++ (cs ++ ms)) 2 refl r₁ in
      let (a₃, r₃) = split (kind ∷ []) ((draw ∷ x.frame_count ∷ []) ++ (cs ++ ms)) 1 refl r₂ in
      let (a₄, r₄) = split (draw ∷ []) ((x.frame_count ∷ []) ++ (cs ++ ms)) 1 refl r₃ in
      let (a₅, r₅) = split (x.frame_count ∷ []) (cs ++ ms) 1 refl r₄ in
      let (a₆, r₆) = split cs ms 16 refl r₅ in
      let (a₇, a₈) = split (x.content.material_index ∷ []) (x.content.quad_count ∷ []) 1 refl r₆ in (
        held (inflation_words x ++ frame_size_words x) refl (sides_below x t) a₁,
        (
          held fs refl (more (flag_below x.flag.use_left_corner_material) (more (flag_below x.flag.use_vertex_color_for_all_window) none)) a₂,
          (
            held (kind ∷ []) refl (more (omega (arith, window_kind_le x.flag.window_kind)) none) a₃,
            (
              held (draw ∷ []) refl (more (flag_below x.flag.not_draw_content) none) a₄,
              (
                held cs refl (colors_below x.content.vertex_colors t.colors) a₆,
                (
                  held (x.content.material_index ∷ []) refl (more t.material none) a₇,
                  tt,
                ),
              ),
            ),
          ),
        ),
      )

  -- ---- ali1

  alignment_passed : (x : AlignmentPane) → TypedAlignment x → Holds w 62 (alignment_words x) → AllScanned alignment_bounds w
  alignment_passed x t a =
      let ns = x.direction ∷ x.default_margin.bits ∷ [] in
      let fs = flag_word x.is_align_last_pane ∷ flag_word x.is_vertical_alignment ∷ [] in
      let (a₁, a₂) = split ns fs 2 refl a in
      (held ns refl (more t.direction (more t.margin none)) a₁, (held fs refl (more (flag_below x.is_align_last_pane) (more (flag_below x.is_vertical_alignment) none)) a₂, tt))

  -- ---- a record

  own_passed : (r : Record) (k : Kind) → TypedWords r → Holds w 62 (own_words k r) → own_checked k good w ≡ good
  unfolding own_words
  own_passed r Pan1 t a = refl
  own_passed r Pic1 t a = all_passed picture_bounds w (picture_passed r.picture t.fields.picture a)
  own_passed r Txt1 t a =
      let (f, s) = text_box_passed r.text_box t.fields.text_box a in
      ap (λ (c : Checked). checked_by c shadow_bounds w) (all_passed font_bounds w f) ∙ all_passed shadow_bounds w s
  own_passed r Wnd1 t a = all_passed window_bounds w (window_passed r.window t.fields.window a)
  own_passed r Ali1 t a = all_passed alignment_bounds w (alignment_passed r.alignment t.fields.alignment a)

  record_passed : (r : Record) → TypedWords r → Holds w 0 (record_words r) → words_checked w ≡ good
  unfolding record_words words_checked
  record_passed r t a =
      let (k, rest) = split (kind_number r.kind ∷ []) (base_words r.base ++ own_words r.kind r) 1 refl a in
      let (b, own) = split (base_words r.base) (own_words r.kind r) 61 (base_long r.base t.fields.base.name t.fields.base.user) rest in
      let e = ap kind_of (nth (kind_number r.kind ∷ []) k 0 (kind_number r.kind) (omega arith) refl) ∙ kind_back r.kind in
      let f = all_passed base_bounds w (base_passed r.kind r.base t.fields.base t.name t.user k b) in
      ap (λ (j : Kind). own_checked j (checked_by good base_bounds w) w) e ∙ ap (λ (c : Checked). own_checked r.kind c w) f ∙ own_passed r r.kind t own

-- THE LAW: stored by a read into a record's words, a record passes the test of a write
pub handed_good : (r : Record) (w : List ℕ) → TypedWords r → 116 ≤ length w → words_checked (splice w 0 (record_words r)) ≡ good
handed_good r w t h = record_passed r t (stands r w t h)
