-- The base, a picture and an alignment pane, read back from their words.
use mathlib.Core.Path.{◌≡◌, refl, sym, ap, ◌∙◌}
use Prim.Native.Nat.{ℕ, ◌<◌}
use native.Mathlib.Omega.{arith}
use mathlib.Core.List.{List, [], ◌∷◌, ◌++◌}
use lib.ListN.{length}
use Rattle.core_read.proofs.Back.{Holds, split}
use Rattle.core_read.specs.declared.text.FixedString.{FixedString}
use Rattle.flags.specs.declared.pane.PaneFlags.{PaneFlags}
use Rattle.flags.specs.declared.pane.PaneFlagsEx.{PaneFlagsEx}
use Rattle.flags.specs.declared.position.BflytPosition.{BflytPosition}
use Rattle.pane_read.specs.Typed.{TypedPane}
use Rattle.pane_read.specs.declared.Pane.{Pane}
use Rattle.picture_fields.specs.Typed.{TypedPicture, TypedShape}
use Rattle.picture_fields.specs.declared.PicturePane.{PicturePane}
use Rattle.alignment_fields.specs.Alignment.{TypedAlignment}
use Rattle.alignment_fields.specs.declared.AlignmentPane.{AlignmentPane}
use Rattle.strip_records.specs.Typed.{Below}
use Rattle.flat.specs.Words.{colors_words, bytes_at}
use Rattle.flat.specs.Base.{pane_flags_words, position_words, flag_ex_words, name_words, user_words, transform_words, base_words, pane_flags_at, position_at, flag_ex_at, name_at, user_at, base_at}
use Rattle.flat_kinds.specs.Own.{shape_words, picture_words, shape_at, picture_at, alignment_words, alignment_at}
use Rattle.flat_records.proofs.BackParts.{nth, flag_nth, byte_nth, half_nth, word_nth, float_nth, horizontal_nth, vertical_nth, vector2_nth, vector3_nth, bytes_back, colors_back}
use Rattle.picture_fields.specs.Picture.{ShapeIndex}
use Rattle.std.specs.Prelude.{None, Some}

module _ {w : List ℕ} where
  -- ---- the base

  flags_back : (f : PaneFlags) → Holds w 1 (pane_flags_words f) → pane_flags_at w ≡ f
  flags_back f a =
      let ws = pane_flags_words f in
      rw (flag_nth ws a 0 f.is_visible (omega arith) refl, flag_nth ws a 1 f.influenced_alpha (omega arith) refl, flag_nth ws a 2 f.location_adjust (omega arith) refl, flag_nth ws a 3 f.user_allocated (omega arith) refl, flag_nth ws a 4 f.is_global_matrix_dirty (omega arith) refl, flag_nth ws a 5 f.is_srt_matrix_user (omega arith) refl, flag_nth ws a 6 f.is_global_matrix_user (omega arith) refl, flag_nth ws a 7 f.is_constant_buffer_ready (omega arith) refl)

  position_back : (g : BflytPosition) → Holds w 9 (position_words g) → position_at w ≡ g
  position_back g a =
      let ws = position_words g in
      rw (horizontal_nth ws a 0 g.position_x (omega arith) refl, vertical_nth ws a 1 g.position_y (omega arith) refl, horizontal_nth ws a 2 g.parent_relative_position_x (omega arith) refl, vertical_nth ws a 3 g.parent_relative_position_y (omega arith) refl)

  flag_ex_back : (alpha : ℕ) (x : PaneFlagsEx) → x.reserve0 < 256 → Holds w 13 (flag_ex_words alpha x) → flag_ex_at w ≡ x
  flag_ex_back alpha x k a =
      let ws = flag_ex_words alpha x in
      rw (flag_nth ws a 1 x.is_no_scale_by_parts (omega arith) refl, flag_nth ws a 2 x.is_scale_size_by_parts_root (omega arith) refl, flag_nth ws a 3 x.is_ext_user_data (omega arith) refl, byte_nth ws a 4 x.reserve0 (omega arith) refl k)

  name_back : (n : FixedString 24) → length n.bytes ≡ 24 → Below 256 n.bytes → Holds w 18 (name_words n) → name_at w ≡ n
  name_back n h k a =
      let (a₁, a₂) = split (n.count ∷ []) n.bytes 1 refl a in
      let e = ap (bytes_at w 19) (sym h) ∙ bytes_back n.bytes k a₂ in
      rw (nth (n.count ∷ []) a₁ 0 n.count (omega arith) refl, e)

  user_back : (n : FixedString 8) → length n.bytes ≡ 8 → Below 256 n.bytes → Holds w 43 (user_words n) → user_at w ≡ n
  user_back n h k a =
      let (a₁, a₂) = split (n.count ∷ []) n.bytes 1 refl a in
      let e = ap (bytes_at w 44) (sym h) ∙ bytes_back n.bytes k a₂ in
      rw (nth (n.count ∷ []) a₁ 0 n.count (omega arith) refl, e)

  pub base_back : (b : Pane) → TypedPane b → Below 256 b.pane_name.bytes → Below 256 b.user_name.bytes → Holds w 1 (base_words b) → base_at w ≡ b
  unfolding base_words base_at
  base_back b t kn ku a =
      let ts = transform_words b.translation b.rotation b.scale b.size in
      let fx = flag_ex_words b.alpha b.flag_ex in
      let (a₁, r₁) = split (pane_flags_words b.pane_flags) (position_words b.position ++ (fx ++ (name_words b.pane_name ++ (user_words b.user_name ++ ts)))) 8 refl a in
      let (a₂, r₂) = split (position_words b.position) (fx ++ (name_words b.pane_name ++ (user_words b.user_name ++ ts))) 4 refl r₁ in
      let (a₃, r₃) = split fx (name_words b.pane_name ++ (user_words b.user_name ++ ts)) 5 refl r₂ in
      let (a₄, r₄) = split (name_words b.pane_name) (user_words b.user_name ++ ts) 25 (omega (arith, t.name)) r₃ in
      let (a₅, a₆) = split (user_words b.user_name) ts 9 (omega (arith, t.user)) r₄ in
      rw (
        flags_back b.pane_flags a₁,
        position_back b.position a₂,
        byte_nth fx a₃ 0 b.alpha (omega arith) refl t.alpha,
        flag_ex_back b.alpha b.flag_ex t.reserve a₃,
        name_back b.pane_name t.name kn a₄,
        user_back b.user_name t.user ku a₅,
        vector3_nth ts a₆ 0 b.translation (omega arith) refl refl refl t.translation,
        vector3_nth ts a₆ 3 b.rotation (omega arith) refl refl refl t.rotation,
        vector2_nth ts a₆ 6 b.scale (omega arith) refl refl t.scale,
        vector2_nth ts a₆ 8 b.size (omega arith) refl refl t.size,
      )

  -- ---- pic1

  shape_back : (x : ShapeIndex) → TypedShape x → Holds w 80 (shape_words x) → shape_at w ≡ x
  shape_back None t a = rw (nth (0 ∷ 0 ∷ []) a 0 0 (omega arith) refl)
  shape_back (Some i) t a = rw (nth (1 ∷ i ∷ []) a 0 1 (omega arith) refl, word_nth (1 ∷ i ∷ []) a 1 i (omega arith) refl t)

  pub picture_back : (x : PicturePane) → TypedPicture x → Holds w 62 (picture_words x) → picture_at w ≡ x
  unfolding picture_words picture_at
  picture_back x t a =
      let ms = x.material_index ∷ x.quad_count ∷ [] in
      let (a₁, r) = split (colors_words x.vertex_colors) (ms ++ shape_words x.shape_info_array_index) 16 refl a in
      let (a₂, a₃) = split ms (shape_words x.shape_info_array_index) 2 refl r in
      rw (colors_back x.vertex_colors t.colors a₁, half_nth ms a₂ 0 x.material_index (omega arith) refl t.material, byte_nth ms a₂ 1 x.quad_count (omega arith) refl t.count, shape_back x.shape_info_array_index t.shape a₃)

  -- ---- ali1

  pub pane_alignment_back : (x : AlignmentPane) → TypedAlignment x → Holds w 62 (alignment_words x) → alignment_at w ≡ x
  pane_alignment_back x t a =
      let ws = alignment_words x in
      rw (word_nth ws a 0 x.direction (omega arith) refl t.direction, float_nth ws a 1 x.default_margin (omega arith) refl t.margin, flag_nth ws a 2 x.is_align_last_pane (omega arith) refl, flag_nth ws a 3 x.is_vertical_alignment (omega arith) refl)
