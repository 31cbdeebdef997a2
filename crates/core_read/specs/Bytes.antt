-- Numbers as bytes in an order, and bytes put into a list at a place.
use Rattle.std.specs.Prelude.{◌≡◌, ℕ, zero, suc, ◌+◌, ◌-◌, ◌*◌, ◌/◌, ◌%◌, ◌≤◌, cond, List, [], ◌∷◌, ◌++◌, reverse, length, take, drop, set, replicate, ℤ, pos, negsuc, ltb}
use Rattle.core_read.specs.declared.cursor.ByteOrder.{ByteOrder}
use Rattle.core_read.specs.declared.cursor.ByteOrder.TheVariants.{Little, Big}

-- ---- numbers

-- the number that a list of bytes spells, the lowest byte first, and a number as w such bytes
abbrev pub little : List ℕ → ℕ
little [] = 0
little (b ∷ bs) = b + 256 * little bs

unfoldable pub le : ℕ → ℕ → List ℕ
le zero v = []
le (suc w) v = v % 256 ∷ le w (v / 256)

-- bytes, the lowest first, put in an order; and bytes in an order, put the lowest first
abbrev pub ordered : ByteOrder → List ℕ → List ℕ
ordered Little bs = bs
ordered Big bs = reverse bs

-- the same in an order
unfoldable pub spelled : ByteOrder → List ℕ → ℕ
spelled order bs = little (ordered order bs)

unfoldable pub bytes_of : ByteOrder → ℕ → ℕ → List ℕ
bytes_of order w v = ordered order (le w v)

-- the numbers of a list, each as w bytes, one after the other
unfoldable pub bytes_of_all : ByteOrder → ℕ → List ℕ → List ℕ
bytes_of_all order w [] = []
bytes_of_all order w (v ∷ vs) = bytes_of order w v ++ bytes_of_all order w vs

-- the width bytes from a place on, and their number
unfoldable pub part : ℕ → List ℕ → ℕ → List ℕ
part width s at = take width (drop at s)

unfoldable pub number_at : ByteOrder → ℕ → List ℕ → ℕ → ℕ
number_at order width s at = spelled order (part width s at)

-- a signed number of 16 bits and its bits, in two's complement
unfoldable pub signed_of : ℕ → ℤ
signed_of n = cond (ltb n 32768) (pos n) (negsuc (65535 - n))

unfoldable pub bits_of : ℤ → ℕ
bits_of (pos n) = n
bits_of (negsuc n) = 65535 - n

-- ---- strings

-- s filled with zeros to w bytes
unfoldable pub fixed : ℕ → List ℕ → List ℕ
fixed w s = s ++ replicate (w - length s) 0

-- ---- places

-- how many bytes are lacking from a place to a multiple of 4
unfoldable pub padding : ℕ → ℕ
padding p = (4 - p % 4) % 4

-- w bytes have room at p in o
abbrev pub Room : List ℕ → ℕ → ℕ → Type 0
Room o p w = p + w ≤ length o

-- o with the bytes e in the place of those from p on, and no other byte changed
unfoldable pub splice : List ℕ → ℕ → List ℕ → List ℕ
splice o p [] = o
splice o p (b ∷ e) = splice (set o p b) (p + 1) e

-- r and o' are the place and the output after the w bytes e were put into o at p
pub record Put (o : List ℕ) (p w : ℕ) (e : List ℕ) (r : ℕ) (o' : List ℕ) : Type 0 where
  pub wide : length e ≡ w
  pub place : r ≡ p + w
  pub long : length o' ≡ length o
  pub bytes : o' ≡ splice o p e
