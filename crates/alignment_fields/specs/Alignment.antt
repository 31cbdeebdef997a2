-- What an alignment pane has beyond the base, 12 bytes: direction u32, margin float, two bool bytes (nonzero is true), u16 0.
use Rattle.std.specs.Prelude.{ℕ, ◌^◌, ◌<◌, Bool, false, not, cond, List, ◌++◌, eqb}
use Rattle.core_read.specs.Bytes.{bytes_of}
use Rattle.core_read.specs.Taken.{u8_taken, u16_taken, u32_taken, Place}
use Rattle.core_read.specs.Taken.{Taken}
use Rattle.core_read.specs.declared.cursor.ByteOrder.{ByteOrder}
use Rattle.floats.specs.Floats.{float}
use Rattle.alignment_fields.specs.declared.AlignmentPane.{AlignmentPane}

-- a bool and its byte
abbrev pub byte_bool : ℕ → Bool
byte_bool n = not (eqb n 0)

abbrev pub bool_byte : Bool → ℕ
bool_byte b = cond b 1 0

unfoldable pub alignment_taken : ByteOrder → List ℕ → Place → Taken AlignmentPane
alignment_taken order s p =
    let direction : Taken ℕ = u32_taken order s p in
    let margin : Taken ℕ = u32_taken order s direction.then in
    let last : Taken ℕ = u8_taken order s margin.then in
    let vertical : Taken ℕ = u8_taken order s last.then in
    let reserve : Taken ℕ = u16_taken order s vertical.then in
    record {
      value = record {
        direction = direction.value;
        default_margin = float margin.value;
        is_align_last_pane = byte_bool last.value;
        is_vertical_alignment = byte_bool vertical.value;
      };
      then = reserve.then;
    }

unfoldable pub blank_alignment : AlignmentPane
blank_alignment = record {
  direction = 0;
  default_margin = float 0;
  is_align_last_pane = false;
  is_vertical_alignment = false;
}

unfoldable pub encode_alignment : ByteOrder → AlignmentPane → List ℕ
encode_alignment order a =
    bytes_of order 4 a.direction
    ++ (bytes_of order 4 a.default_margin.bits
    ++ (bytes_of order 1 (bool_byte a.is_align_last_pane)
    ++ (bytes_of order 1 (bool_byte a.is_vertical_alignment) ++ bytes_of order 2 0)))

-- what the types of the code guarantee
pub record TypedAlignment (a : AlignmentPane) : Type 0 where
  pub direction : a.direction < 256 ^ 4
  pub margin : a.default_margin.bits < 256 ^ 4
