-- The words of the base, and the base of the words. Places are those of layout.rt.
use Rattle.std.specs.Prelude.{ℕ, ◌+◌, List, [], ◌∷◌, ◌++◌, get_or}
use Rattle.core_read.specs.declared.text.FixedString.{FixedString}
use Rattle.flags.specs.Enums.{horizontal_of, horizontal_number, vertical_of, vertical_number}
use Rattle.flags.specs.declared.pane.PaneFlags.{PaneFlags}
use Rattle.flags.specs.declared.pane.PaneFlagsEx.{PaneFlagsEx}
use Rattle.flags.specs.declared.position.BflytPosition.{BflytPosition}
use Rattle.ui2d.specs.declared.Vector2f.{Vector2f}
use Rattle.ui2d.specs.declared.Vector3f.{Vector3f}
use Rattle.pane_read.specs.declared.Pane.{Pane}
use Rattle.flat.specs.Words.{flag_word, byte_at, flag_at, vector2_at, vector3_at, bytes_at}

-- ---- words

-- PANE_FLAGS: eight flags in field order
abbrev pub pane_flags_words : PaneFlags → List ℕ
pane_flags_words f =
    flag_word f.is_visible
    ∷ flag_word f.influenced_alpha
    ∷ flag_word f.location_adjust
    ∷ flag_word f.user_allocated
    ∷ flag_word f.is_global_matrix_dirty
    ∷ flag_word f.is_srt_matrix_user
    ∷ flag_word f.is_global_matrix_user
    ∷ flag_word f.is_constant_buffer_ready
    ∷ []

-- POSITION: x and y, then the parent's
abbrev pub position_words : BflytPosition → List ℕ
position_words g =
    horizontal_number g.position_x
    ∷ vertical_number g.position_y
    ∷ horizontal_number g.parent_relative_position_x
    ∷ vertical_number g.parent_relative_position_y
    ∷ []

-- ALPHA, then FLAG_EX: three flags and reserve0
abbrev pub flag_ex_words : ℕ → PaneFlagsEx → List ℕ
flag_ex_words alpha x =
    alpha
    ∷ flag_word x.is_no_scale_by_parts
    ∷ flag_word x.is_scale_size_by_parts_root
    ∷ flag_word x.is_ext_user_data
    ∷ x.reserve0
    ∷ []

-- NAME_COUNT and NAME; USER_COUNT and USER: the count, and every byte of the array
abbrev pub name_words : FixedString 24 → List ℕ
name_words n = (n.count ∷ []) ++ n.bytes

abbrev pub user_words : FixedString 8 → List ℕ
user_words n = (n.count ∷ []) ++ n.bytes

-- TRANSLATION, ROTATION, SCALE, SIZE: the bits of each float
abbrev pub transform_words : Vector3f → Vector3f → Vector2f → Vector2f → List ℕ
transform_words t r c s =
    t.x.bits ∷ t.y.bits ∷ t.z.bits ∷ r.x.bits ∷ r.y.bits ∷ r.z.bits ∷ c.x.bits ∷ c.y.bits ∷ s.x.bits ∷ s.y.bits ∷ []

-- from PANE_FLAGS on
unfoldable pub base_words : Pane → List ℕ
base_words b =
    pane_flags_words b.pane_flags
    ++ (position_words b.position
    ++ (flag_ex_words b.alpha b.flag_ex
    ++ (name_words b.pane_name
    ++ (user_words b.user_name ++ transform_words b.translation b.rotation b.scale b.size))))

-- ---- and back

abbrev pub pane_flags_at : List ℕ → PaneFlags
pane_flags_at w = record {
  is_visible = flag_at w 1;
  influenced_alpha = flag_at w 2;
  location_adjust = flag_at w 3;
  user_allocated = flag_at w 4;
  is_global_matrix_dirty = flag_at w 5;
  is_srt_matrix_user = flag_at w 6;
  is_global_matrix_user = flag_at w 7;
  is_constant_buffer_ready = flag_at w 8;
}

abbrev pub position_at : List ℕ → BflytPosition
position_at w = record {
  position_x = horizontal_of (byte_at w 9);
  position_y = vertical_of (byte_at w 10);
  parent_relative_position_x = horizontal_of (byte_at w 11);
  parent_relative_position_y = vertical_of (byte_at w 12);
}

abbrev pub flag_ex_at : List ℕ → PaneFlagsEx
flag_ex_at w = record {
  is_no_scale_by_parts = flag_at w 14;
  is_scale_size_by_parts_root = flag_at w 15;
  is_ext_user_data = flag_at w 16;
  reserve0 = byte_at w 17;
}

-- a fixed string of n bytes: the count at i, and the bytes from the next word on
abbrev pub string_at : (n : ℕ) → List ℕ → ℕ → FixedString n
string_at n w i = record { bytes = bytes_at w (i + 1) n; count = get_or w i 0 }

abbrev pub name_at : List ℕ → FixedString 24
name_at w = string_at 24 w 18

abbrev pub user_at : List ℕ → FixedString 8
user_at w = string_at 8 w 43

unfoldable pub base_at : List ℕ → Pane
base_at w = record {
  pane_flags = pane_flags_at w;
  position = position_at w;
  alpha = byte_at w 13;
  flag_ex = flag_ex_at w;
  pane_name = name_at w;
  user_name = user_at w;
  translation = vector3_at w 52;
  rotation = vector3_at w 55;
  scale = vector2_at w 58;
  size = vector2_at w 60;
}
