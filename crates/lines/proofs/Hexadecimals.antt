-- The laws of `hexadecimal`: the digits of bytes one after the other.
use mathlib.Core.Path.{◌≡◌, refl, sym, ap}
use Prim.Native.Nat.{ℕ, ◌+◌, ◌<◌}
use mathlib.Core.List.{List, [], ◌∷◌, ◌++◌, append_assoc, append-nil}
use lib.ListN.{length, take, get_or}
use Rattle.core_write.proofs.Puts.{take_more}
use Rattle.escapes.specs.Escaped.{hex_digits}
use Rattle.lines.specs.Hexadecimal.{hexadecimal}

hexadecimal_append : (a b : List ℕ) → hexadecimal (a ++ b) ≡ hexadecimal a ++ hexadecimal b
unfolding hexadecimal
hexadecimal_append [] b = refl
hexadecimal_append (x ∷ a) b = rw (hexadecimal_append a b) (sym (append_assoc (hex_digits x) (hexadecimal a) (hexadecimal b)))

hexadecimal_one : (b : ℕ) → hexadecimal (b ∷ []) ≡ hex_digits b
unfolding hexadecimal
hexadecimal_one b = append-nil (hex_digits b)

-- the digits of one byte more
pub hexadecimal_more : (s : List ℕ) (i : ℕ) → i < length s → hexadecimal (take (i + 1) s) ≡ hexadecimal (take i s) ++ hex_digits (get_or s i 0)
hexadecimal_more s i h =
    rw (take_more s i h, hexadecimal_append) (ap (λ (l : List ℕ). hexadecimal (take i s) ++ l) (hexadecimal_one (get_or s i 0)))
