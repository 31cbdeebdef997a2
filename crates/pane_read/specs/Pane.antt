-- The base pane, 76 bytes: its read field by field, and its bytes.
use Rattle.std.specs.Prelude.{ℕ, ◌≤◌, List, ◌++◌, take, replicate}
use Rattle.core_read.specs.Bytes.{bytes_of, fixed}
use Rattle.core_read.specs.Taken.{u8_taken, fixed_string_taken, Place}
use Rattle.core_read.specs.Taken.{Taken}
use Rattle.core_read.specs.declared.cursor.ByteOrder.{ByteOrder}
use Rattle.core_read.specs.declared.text.FixedString.{FixedString}
use Rattle.flags.specs.Fields.{position_of, pane_flags_of, flag_ex_of, position_number, pane_flags_number, flag_ex_number}
use Rattle.floats.specs.Floats.{float}
use Rattle.ui2d.specs.Parts.{vector2_taken, vector3_taken, encode_vector2, encode_vector3}
use Rattle.ui2d.specs.declared.Vector2f.{Vector2f}
use Rattle.ui2d.specs.declared.Vector3f.{Vector3f}
use Rattle.pane_read.specs.declared.Pane.{Pane}

-- a name is its counted bytes
abbrev pub text24 : FixedString 24 → List ℕ
text24 n = take n.count n.bytes

abbrev pub text8 : FixedString 8 → List ℕ
text8 n = take n.count n.bytes

-- ---- reading

-- flags, position, alpha, flag_ex, name 24, user name 8, translation 3 floats, rotation 3, scale 2, size 2
unfoldable pub pane_taken : ByteOrder → List ℕ → Place → Taken Pane
pane_taken order s p =
    let flags : Taken ℕ = u8_taken order s p in
    let position : Taken ℕ = u8_taken order s flags.then in
    let alpha : Taken ℕ = u8_taken order s position.then in
    let ex : Taken ℕ = u8_taken order s alpha.then in
    let name : Taken (FixedString 24) = fixed_string_taken 24 s ex.then in
    let user : Taken (FixedString 8) = fixed_string_taken 8 s name.then in
    let translation : Taken Vector3f = vector3_taken order s user.then in
    let rotation : Taken Vector3f = vector3_taken order s translation.then in
    let scale : Taken Vector2f = vector2_taken order s rotation.then in
    let size : Taken Vector2f = vector2_taken order s scale.then in
    record {
      value = record {
        pane_flags = pane_flags_of flags.value;
        position = position_of position.value;
        alpha = alpha.value;
        flag_ex = flag_ex_of ex.value;
        pane_name = name.value;
        user_name = user.value;
        translation = translation.value;
        rotation = rotation.value;
        scale = scale.value;
        size = size.value;
      };
      then = size.then;
    }

abbrev zero2 : Vector2f
zero2 = record { x = float 0; y = float 0 }

abbrev zero3 : Vector3f
zero3 = record { x = float 0; y = float 0; z = float 0 }

-- the pane beside a refusal: numbers +0, first cases, false
unfoldable pub blank_pane : Pane
blank_pane = record {
  pane_flags = pane_flags_of 0;
  position = position_of 0;
  alpha = 0;
  flag_ex = flag_ex_of 0;
  pane_name = record { bytes = replicate 24 0; count = 0 };
  user_name = record { bytes = replicate 8 0; count = 0 };
  translation = zero3;
  rotation = zero3;
  scale = zero2;
  size = zero2;
}

-- ---- bytes

-- the first 36 bytes, and the 40 after them
unfoldable pub encode_head : ByteOrder → Pane → List ℕ
encode_head order b =
    bytes_of order 1 (pane_flags_number b.pane_flags)
    ++ (bytes_of order 1 (position_number b.position)
    ++ (bytes_of order 1 b.alpha
    ++ (bytes_of order 1 (flag_ex_number b.flag_ex)
    ++ (fixed 24 (text24 b.pane_name) ++ fixed 8 (text8 b.user_name)))))

unfoldable pub encode_transform : ByteOrder → Pane → List ℕ
encode_transform order b =
    encode_vector3 order b.translation
    ++ (encode_vector3 order b.rotation ++ (encode_vector2 order b.scale ++ encode_vector2 order b.size))

unfoldable pub encode_pane : ByteOrder → Pane → List ℕ
encode_pane order b = encode_head order b ++ encode_transform order b

-- what the bytes ask of a pane: its names are within their widths
pub record Sound (b : Pane) : Type 0 where
  pub name : b.pane_name.count ≤ 24
  pub user : b.user_name.count ≤ 8
