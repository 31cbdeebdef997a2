-- Numbers as bytes, for every width and every order together. A new order adds a clause to the three laws of `ordered`, and to no other.
use mathlib.Core.Path.{◌≡◌, refl, sym, ap, ◌∙◌}
use mathlib.Core.List.{List, [], ◌∷◌, reverse-reverse}
use Prim.Native.Nat.{ℕ, zero, suc, ◌+◌, ◌/◌, ◌%◌, ◌^◌, ◌<◌}
use native.Mathlib.Nat.{mod-add-div}
use native.Mathlib.Numerals.{add-one}
use native.Mathlib.Omega.{arith}
use lib.ListN.{length, get_or, length-reverse}
use lib.Seq.{drop-cons}
use Rattle.core_read.specs.Bytes.{little, le, ordered, spelled, bytes_of, part, number_at}
use Rattle.core_read.specs.declared.cursor.ByteOrder.{ByteOrder}
use Rattle.core_read.specs.declared.cursor.ByteOrder.TheVariants.{Little, Big}

-- ---- bytes in an order

ordered_length : (order : ByteOrder) (bs : List ℕ) → length (ordered order bs) ≡ length bs
ordered_length Little bs = refl
ordered_length Big bs = length-reverse bs

ordered_twice : (order : ByteOrder) (bs : List ℕ) → ordered order (ordered order bs) ≡ bs
ordered_twice Little bs = refl
ordered_twice Big bs = reverse-reverse bs

ordered_one : (order : ByteOrder) (b : ℕ) → ordered order (b ∷ []) ≡ b ∷ []
ordered_one Little b = refl
ordered_one Big b = refl

-- ---- numbers

length_le : (w v : ℕ) → length (le w v) ≡ w
unfolding le
length_le zero v = refl
length_le (suc w) v = ap suc (length_le w _)

little_le : (w v : ℕ) → v < 256 ^ w → little (le w v) ≡ v
unfolding le
little_le zero v h = omega arith
little_le (suc w) v h = rw (little_le w (v / 256) (omega arith)) (mod-add-div v 256)

-- THE ROUND TRIP, and the length
pub length_bytes : (order : ByteOrder) (w v : ℕ) → length (bytes_of order w v) ≡ w
unfolding bytes_of
length_bytes order w v = ordered_length order (le w v) ∙ length_le w v

pub spelled_bytes : (order : ByteOrder) (w v : ℕ) → v < 256 ^ w → spelled order (bytes_of order w v) ≡ v
unfolding bytes_of spelled
spelled_bytes order w v h = ap little (ordered_twice order (le w v)) ∙ little_le w v h

-- a byte is itself in every order
pub byte_bytes : (order : ByteOrder) (v : ℕ) → v < 256 → v ∷ [] ≡ bytes_of order 1 v
unfolding bytes_of le
byte_bytes order v h = let e : v ≡ v % 256 = omega arith in ap (λ (x : ℕ). x ∷ []) e ∙ sym (ordered_one order (v % 256))

spelled_one : (order : ByteOrder) (v : ℕ) → spelled order (v ∷ []) ≡ v
unfolding spelled
spelled_one order v = rw (ordered_one order v) (omega arith)

-- ---- a number at a place, byte by byte

part_step : (w : ℕ) (s : List ℕ) (at : ℕ) → at < length s → part (suc w) s at ≡ get_or s at 0 ∷ part w s (at + 1)
unfolding part
part_step w s at h = rw (add-one, drop-cons s at 0)

part_none : (s : List ℕ) (at : ℕ) → part 0 s at ≡ []
unfolding part
part_none s at = refl

pub one : (order : ByteOrder) (s : List ℕ) (at : ℕ) → at < length s → number_at order 1 s at ≡ get_or s at 0
unfolding number_at
one order s at h = rw (part_step 0 s at h, part_none s (at + 1)) (spelled_one order (get_or s at 0))
