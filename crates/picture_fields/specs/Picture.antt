-- What a picture has beyond the base: four vertex colours, material u16, quad count u8, shape byte, quads, and a u32 shape index if the byte is nonzero.
use Rattle.std.specs.Prelude.{◌≡◌, ℕ, ◌+◌, ◌*◌, ◌/◌, ◌%◌, ◌≤◌, cond, List, [], ◌∷◌, ◌++◌, length, eqb, None, Ok, Some, Option}
use Rattle.core_read.specs.Bytes.{bytes_of, bytes_of_all, Room}
use Rattle.core_read.specs.Taken.{u8_taken, u16_taken, u32_taken, Place}
use Rattle.core_read.specs.Taken.{Taken}
use Rattle.core_checks.specs.Checks.{count_checked}
use Rattle.core_read.specs.Lists.{numbers_taken}
use Rattle.core_read.specs.declared.cursor.ByteOrder.{ByteOrder}
use Rattle.ui2d.specs.Parts.{colors_taken, encode_colors}
use Rattle.ui2d.specs.declared.Color4u8.{Color4u8}
use Rattle.ui2d.specs.Material.{material_taken}
use Rattle.ui2d.specs.declared.material.Material.{Material}
use Rattle.picture_fields.specs.declared.PicturePane.{PicturePane}
use Rattle.picture_fields.specs.declared.PictureFound.{PictureFound}
use Rattle.picture_fields.specs.declared.PictureHead.{PictureHead}
use Rattle.core_read.specs.declared.error.NumberList.TheVariants.{Quads}
use Rattle.core_read.specs.Taken.{cursor_of}

-- nnbfl's Option of the shape index
abbrev pub ShapeIndex : Type 0
ShapeIndex = Option ℕ

-- ---- reading

-- a u32 shape index if the byte is nonzero
unfoldable pub shape_taken : ByteOrder → List ℕ → Place → ℕ → Taken ShapeIndex
shape_taken order s p byte =
    let index : Taken ℕ = u32_taken order s p in
    cond (eqb byte 0) (record { value = None; then = p }) (record { value = Some index.value; then = index.then })

-- the 20 bytes before the quads
unfoldable pub head_taken : ByteOrder → List ℕ → Place → Taken PictureHead
head_taken order s p =
    let colors : Taken (List Color4u8) = colors_taken order s p in
    let material : Taken Material = material_taken order s colors.then in
    record { value = record { vertex_colors = colors.value; material = material.value }; then = material.then }

-- eight floats a quad, kept by their bits
unfoldable pub picture_taken : ByteOrder → List ℕ → Place → Taken PictureFound
picture_taken order s p =
    let colors : Taken (List Color4u8) = colors_taken order s p in
    let material : Taken ℕ = u16_taken order s colors.then in
    let count : Taken ℕ = u8_taken order s material.then in
    let shape : Taken ℕ = u8_taken order s count.then in
    let quads : Taken (List ℕ) = numbers_taken order 4 (8 * count.value) s shape.then in
    let index : Taken ShapeIndex = shape_taken order s quads.then shape.value in
    record {
      value = record {
        picture = record {
          vertex_colors = colors.value;
          material_index = material.value;
          shape_info_array_index = index.value;
          quad_count = count.value;
        };
        quads = cursor_of shape.then;
      };
      then = index.then;
    }

-- the numbers of the quads of a picture that was measured, and of one that is read at a place
unfoldable pub quads_of : ByteOrder → List ℕ → PictureFound → List ℕ
quads_of order s t = (numbers_taken order 4 (8 * t.picture.quad_count) s (Ok t.quads)).value

unfoldable pub picture_quads : ByteOrder → List ℕ → Place → List ℕ
picture_quads order s p = quads_of order s (picture_taken order s p).value

-- the quads of a measured picture are all there, and a list of n numbers has room for as many as a count can be
pub record Measured (s : List ℕ) (t : PictureFound) (n : ℕ) : Type 0 where
  pub there : Room s t.quads.pos (32 * t.picture.quad_count)
  pub room : 2040 ≤ n

abbrev zero_color : Color4u8
zero_color = record { r = 0; g = 0; b = 0; a = 0 }

-- the picture beside a refusal: numbers 0, absent
unfoldable pub blank_picture : PicturePane
blank_picture = record {
  vertex_colors = zero_color ∷ zero_color ∷ zero_color ∷ zero_color ∷ [];
  material_index = 0;
  shape_info_array_index = None;
  quad_count = 0;
}

-- ---- writing

-- 11: quads not 8n numbers, n at most 255: list 1
unfoldable pub picture_checked : Place → List ℕ → Place
picture_checked p quads = count_checked p Quads 8 (length quads)

-- what check 11 leaves
pub record GoodPicture (quads : List ℕ) : Type 0 where
  pub whole : length quads % 8 ≡ 0
  pub few : length quads ≤ 2040

-- the byte is 1 where the record holds a shape index, else 0
abbrev pub shape_byte : ShapeIndex → ℕ
shape_byte None = 0
shape_byte (Some i) = 1

-- the bytes of a shape index, and how many they are
unfoldable pub encode_shape : ByteOrder → ShapeIndex → List ℕ
encode_shape order None = []
encode_shape order (Some i) = bytes_of order 4 i

abbrev pub shape_length : ShapeIndex → ℕ
shape_length None = 0
shape_length (Some i) = 4

-- the count is that of the list's quads
unfoldable pub encode_picture : ByteOrder → PicturePane → List ℕ → List ℕ
encode_picture order x quads =
    encode_colors order x.vertex_colors
    ++ (bytes_of order 2 x.material_index
    ++ (bytes_of order 1 (length quads / 8)
    ++ (bytes_of order 1 (shape_byte x.shape_info_array_index)
    ++ (bytes_of_all order 4 quads ++ encode_shape order x.shape_info_array_index))))

-- the bytes beyond the base
unfoldable pub picture_length : PicturePane → List ℕ → ℕ
picture_length x quads = 20 + 4 * length quads + shape_length x.shape_info_array_index
