-- Quads in a list of bits: eight numbers each, x and y of the top left, top right, bottom left and bottom right corner.
use Rattle.std.specs.Prelude.{ℕ, ◌+◌, List, [], ◌∷◌, ◌++◌, get_or}
use Rattle.floats.specs.Floats.{float}
use Rattle.ui2d.specs.declared.Vector2f.{Vector2f}
use Rattle.ui2d.specs.declared.Quad.{Quad}

-- the numbers of a vector and of a quad
unfoldable pub vector_bits : Vector2f → List ℕ
vector_bits v = v.x.bits ∷ v.y.bits ∷ []

unfoldable pub quad_bits : Quad → List ℕ
unfolding vector_bits
quad_bits q = vector_bits q.top_left ++ (vector_bits q.top_right ++ (vector_bits q.bottom_left ++ vector_bits q.bottom_right))

-- the vector and the quad whose numbers stand in a list from the number `at` on
unfoldable pub vector_at : List ℕ → ℕ → Vector2f
vector_at l at = record { x = float (get_or l at 0); y = float (get_or l (at + 1) 0) }

unfoldable pub quad_at : List ℕ → ℕ → Quad
unfolding vector_at
quad_at l at = record {
  top_left = vector_at l at;
  top_right = vector_at l (at + 2);
  bottom_left = vector_at l (at + 4);
  bottom_right = vector_at l (at + 6);
}
