-- A material's index and the two bytes after it: of a picture the quad count and the shape byte, of a window's content the quad count and 0.
use Rattle.std.specs.Prelude.{ℕ, List}
use Rattle.core_read.specs.Taken.{u8_taken, u16_taken, Place}
use Rattle.core_read.specs.Taken.{Taken}
use Rattle.core_read.specs.declared.cursor.ByteOrder.{ByteOrder}
use Rattle.ui2d.specs.declared.material.Material.{Material}

unfoldable pub material_taken : ByteOrder → List ℕ → Place → Taken Material
material_taken order s p =
    let index : Taken ℕ = u16_taken order s p in
    let first : Taken ℕ = u8_taken order s index.then in
    let second : Taken ℕ = u8_taken order s first.then in
    record { value = record { index = index.value; first = first.value; second = second.value }; then = second.then }
