-- Runs of numbers of one width.
use Rattle.std.specs.Prelude.{ℕ, zero, suc, ◌+◌, List, [], ◌∷◌}
use Rattle.core_read.specs.Bytes.{number_at}
use Rattle.core_read.specs.Taken.{number_taken, Place}
use Rattle.core_read.specs.Taken.{Taken}
use Rattle.core_read.specs.declared.cursor.ByteOrder.{ByteOrder}

-- n numbers of a width, one read after the other
unfoldable pub numbers_taken : ByteOrder → ℕ → ℕ → List ℕ → Place → Taken (List ℕ)
numbers_taken order width zero s p = record { value = []; then = p }
numbers_taken order width (suc n) s p =
    let first : Taken ℕ = number_taken order width s p in
    let rest : Taken (List ℕ) = numbers_taken order width n s first.then in
    record { value = first.value ∷ rest.value; then = rest.then }

-- the n numbers of a width from a place on
unfoldable pub numbers_at : ByteOrder → ℕ → ℕ → List ℕ → ℕ → List ℕ
numbers_at order width zero s at = []
numbers_at order width (suc n) s at = number_at order width s at ∷ numbers_at order width n s (at + width)
