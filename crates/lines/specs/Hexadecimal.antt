-- Bytes as hexadecimal digits, in capitals: two a byte, the high half first.
use Rattle.std.specs.Prelude.{ℕ, List, [], ◌∷◌, ◌++◌}
use Rattle.escapes.specs.Escaped.{hex_digits}

unfoldable pub hexadecimal : List ℕ → List ℕ
hexadecimal [] = []
hexadecimal (b ∷ s) = hex_digits b ++ hexadecimal s
