-- Vectors, colours and quads at a place of the bytes, as they are read and as they are written.
use Rattle.std.specs.Prelude.{ℕ, List, [], ◌∷◌, ◌++◌}
use Rattle.core_read.specs.Bytes.{bytes_of}
use Rattle.core_read.specs.Taken.{u8_taken, u32_taken, Place}
use Rattle.core_read.specs.Taken.{Taken}
use Rattle.core_read.specs.declared.cursor.ByteOrder.{ByteOrder}
use Rattle.floats.specs.Floats.{float}
use Rattle.ui2d.specs.declared.Vector2f.{Vector2f}
use Rattle.ui2d.specs.declared.Vector3f.{Vector3f}
use Rattle.ui2d.specs.declared.Color4u8.{Color4u8}
use Rattle.ui2d.specs.declared.Quad.{Quad}

-- ---- read

-- vectors are x, y, z floats, kept by their bits
unfoldable pub vector2_taken : ByteOrder → List ℕ → Place → Taken Vector2f
vector2_taken order s p =
    let x : Taken ℕ = u32_taken order s p in
    let y : Taken ℕ = u32_taken order s x.then in
    record { value = record { x = float x.value; y = float y.value }; then = y.then }

unfoldable pub vector3_taken : ByteOrder → List ℕ → Place → Taken Vector3f
vector3_taken order s p =
    let x : Taken ℕ = u32_taken order s p in
    let y : Taken ℕ = u32_taken order s x.then in
    let z : Taken ℕ = u32_taken order s y.then in
    record { value = record { x = float x.value; y = float y.value; z = float z.value }; then = z.then }

-- colours are r, g, b, a bytes
unfoldable pub color_taken : ByteOrder → List ℕ → Place → Taken Color4u8
color_taken order s p =
    let r : Taken ℕ = u8_taken order s p in
    let g : Taken ℕ = u8_taken order s r.then in
    let b : Taken ℕ = u8_taken order s g.then in
    let a : Taken ℕ = u8_taken order s b.then in
    record { value = record { r = r.value; g = g.value; b = b.value; a = a.value }; then = a.then }

-- four colours: top left, top right, bottom left, bottom right
unfoldable pub colors_taken : ByteOrder → List ℕ → Place → Taken (List Color4u8)
colors_taken order s p =
    let tl : Taken Color4u8 = color_taken order s p in
    let tr : Taken Color4u8 = color_taken order s tl.then in
    let bl : Taken Color4u8 = color_taken order s tr.then in
    let br : Taken Color4u8 = color_taken order s bl.then in
    record { value = tl.value ∷ tr.value ∷ bl.value ∷ br.value ∷ []; then = br.then }

-- ---- written

unfoldable pub encode_vector2 : ByteOrder → Vector2f → List ℕ
encode_vector2 order v = bytes_of order 4 v.x.bits ++ bytes_of order 4 v.y.bits

unfoldable pub encode_vector3 : ByteOrder → Vector3f → List ℕ
encode_vector3 order v = bytes_of order 4 v.x.bits ++ (bytes_of order 4 v.y.bits ++ bytes_of order 4 v.z.bits)

unfoldable pub encode_color : ByteOrder → Color4u8 → List ℕ
encode_color order v = bytes_of order 1 v.r ++ (bytes_of order 1 v.g ++ (bytes_of order 1 v.b ++ bytes_of order 1 v.a))

-- the colours of a list, one after the other
unfoldable pub encode_colors : ByteOrder → List Color4u8 → List ℕ
encode_colors order [] = []
encode_colors order (v ∷ vs) = encode_color order v ++ encode_colors order vs

-- a quad is four corner points, eight floats, in the order of the colours
unfoldable pub encode_quad : ByteOrder → Quad → List ℕ
encode_quad order v =
    encode_vector2 order v.top_left
    ++ (encode_vector2 order v.top_right ++ (encode_vector2 order v.bottom_left ++ encode_vector2 order v.bottom_right))
