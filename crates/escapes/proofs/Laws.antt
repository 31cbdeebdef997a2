-- No byte of what is shown ends the line, and none ends the quotes around it.
use mathlib.Core.Path.{◌≡◌, refl}
use mathlib.Core.Logic.{◌⊎◌, inl, inr}
use mathlib.Core.Bool.{Bool, true, false, cond, ◌||◌}
use Prim.Native.Nat.{ℕ, zero, suc, ◌+◌, ◌*◌, ◌/◌, ◌%◌, ◌≤◌, ◌<◌}
use native.Mathlib.Numerals.{add-one}
use native.Mathlib.Omega.{arith}
use mathlib.Core.List.{List, [], ◌∷◌, ◌++◌, append_assoc}
use lib.ListN.{length, get_or, length-append}
use lib.Dec.{ltb, leb, eqb}
use borrow.Author.Tests.{ltb-true, le-ltb, ne_eqb}
use Rattle.core_write.specs.Puts.{PutsText}
use Rattle.core_write.specs.declared.writer.Writer.{Writer}
use Rattle.core_write.proofs.Texts.{◌then◌}
use Rattle.escapes.specs.Escaped.{control, hidden, hex_digit, written_out, shown, escaped_up_to, escaped, has_control, before_quote}

-- ---- tests

pick : {A : Type 0} (P : A → Type 0) (t : Bool) (a b : A) → (t ≡ true → P a) → (t ≡ false → P b) → P (cond t a b)
pick P true a b f g = f refl
pick P false a b f g = g refl

or_left : (a b : Bool) → (a || b) ≡ false → a ≡ false
or_left true b e = e
or_left false b e = refl

or_right : (a b : Bool) → (a || b) ≡ false → b ≡ false
or_right true b e = let z : ◌≡◌ {A = ℕ} 0 1 = cc in absurd (omega arith)
or_right false b e = e

-- ---- a digit is no control character, no quote and no backslash

hex_within : (d : ℕ) → d < 16 → (48 ≤ hex_digit d) × (hex_digit d ≤ 70)
unfolding hex_digit
hex_within d h =
    pick (λ (x : ℕ). (48 ≤ x) × (x ≤ 70)) (ltb d 10) (48 + d) (55 + d)
    (λ t. let k : d < 10 = ltb-true d 10 t in (omega arith, omega arith))
    (λ t. (omega arith, omega arith))

pub not_control : (b : ℕ) → 32 ≤ b → b < 127 → control b ≡ false
unfolding control
not_control b h k = rw (le-ltb b 32 h, ne_eqb b 127 (λ e. omega arith))

hex_control : (n : ℕ) → control (hex_digit (n % 16)) ≡ false
hex_control n = let w = hex_within (n % 16) (omega arith) in not_control (hex_digit (n % 16)) (omega arith) (omega arith)

hex_other : (n k : ℕ) → (k < 48) ⊎ (70 < k) → eqb (hex_digit (n % 16)) k ≡ false
hex_other n k (inl h) = let w = hex_within (n % 16) (omega arith) in ne_eqb _ k (λ e. omega arith)
hex_other n k (inr h) = let w = hex_within (n % 16) (omega arith) in ne_eqb _ k (λ e. omega arith)

-- ---- the three ways in which a byte is shown

pub shown_out : (hide : Bool) (b : ℕ) → (hide || control b) ≡ true → shown hide b ≡ written_out b
unfolding shown
shown_out hide b t = rw t

pub shown_backslash : (hide : Bool) (b : ℕ) → (hide || control b) ≡ false → (eqb b 0x22 || eqb b 0x5C) ≡ true → shown hide b ≡ 0x5C ∷ b ∷ []
unfolding shown
shown_backslash hide b t u = rw (t, u)

pub shown_plain : (hide : Bool) (b : ℕ) → (hide || control b) ≡ false → (eqb b 0x22 || eqb b 0x5C) ≡ false → shown hide b ≡ b ∷ []
unfolding shown
shown_plain hide b t u = rw (t, u)

-- ---- how long

pub shown_short : (out : Bool) (b : ℕ) → length (shown out b) ≤ 4
unfolding shown written_out
shown_short out b =
    pick (λ (e : List ℕ). length e ≤ 4) (out || control b) (written_out b) _
    (λ t. omega arith)
    (λ t. pick (λ (e : List ℕ). length e ≤ 4) (eqb b 0x22 || eqb b 0x5C) (0x5C ∷ b ∷ []) (b ∷ []) (λ u. omega arith) (λ u. omega arith))

pub up_to_short : (ascii : Bool) (s : List ℕ) (i : ℕ) → length (escaped_up_to ascii s i) ≤ 4 * i
unfolding escaped_up_to
up_to_short ascii s zero = omega arith
up_to_short ascii s (suc i) =
    let out = cond ascii (leb 0x80 (get_or s i 0)) (hidden s i) in
    omega (arith, length-append (escaped_up_to ascii s i) (shown out (get_or s i 0)), up_to_short ascii s i, shown_short out (get_or s i 0))

-- one byte more
pub up_to_more : (ascii : Bool) (s : List ℕ) (i : ℕ)
    → escaped_up_to ascii s (i + 1) ≡ escaped_up_to ascii s i ++ shown (cond ascii (leb 0x80 (get_or s i 0)) (hidden s i)) (get_or s i 0)
unfolding escaped_up_to
up_to_more ascii s i = rw add-one

-- the bytes so far and one more, put one after the other
pub puts_more : {a b c : Writer} (ascii : Bool) (s : List ℕ) (i : ℕ) (hide : Bool) → hide ≡ cond ascii (leb 0x80 (get_or s i 0)) (hidden s i)
    → PutsText a b (escaped_up_to ascii s i) → PutsText b c (shown hide (get_or s i 0)) → PutsText a c (escaped_up_to ascii s (i + 1))
puts_more ascii s i hide e h k = rw (up_to_more ascii s i, ← e) (h then k)

-- ---- no control character: the line does not end

pub control_append : (a b : List ℕ) → has_control a ≡ false → has_control b ≡ false → has_control (a ++ b) ≡ false
unfolding has_control
control_append [] b h k = k
control_append (x ∷ a) b h k = rw (or_left (control x) _ h) (control_append a b (or_right (control x) _ h) k)

piece_control : (out : Bool) (b : ℕ) → has_control (shown out b) ≡ false
unfolding shown written_out has_control control
piece_control out b =
    pick (λ (e : List ℕ). has_control e ≡ false) (out || control b) (written_out b) _
    (λ t. rw (hex_control (b / 16), hex_control b))
    (λ t. let plain = or_right out (control b) t in
    pick (λ (e : List ℕ). has_control e ≡ false) (eqb b 0x22 || eqb b 0x5C) (0x5C ∷ b ∷ []) (b ∷ []) (λ u. rw plain) (λ u. rw plain))

up_to_control : (ascii : Bool) (s : List ℕ) (i : ℕ) → has_control (escaped_up_to ascii s i) ≡ false
unfolding escaped_up_to has_control
up_to_control ascii s zero = refl
up_to_control ascii s (suc i) = control_append (escaped_up_to ascii s i) _ (up_to_control ascii s i) (piece_control _ (get_or s i 0))

pub no_control : (ascii : Bool) (s : List ℕ) → has_control (escaped ascii s) ≡ false
unfolding escaped
no_control ascii s = up_to_control ascii s (length s)

-- ---- the first quote with no backslash before it is the one behind them

written_quote : (b : ℕ) (t : List ℕ) → before_quote false (written_out b ++ t) ≡ 4 + before_quote false t
unfolding written_out before_quote
written_quote b t =
    rw (hex_other (b / 16) 0x22 (inl (omega arith)), hex_other (b / 16) 0x5C (inr (omega arith)), hex_other b 0x22 (inl (omega arith)), hex_other b 0x5C (inr (omega arith))) (omega arith)

backslash_quote : (b : ℕ) (t : List ℕ) → before_quote false (0x5C ∷ b ∷ t) ≡ 2 + before_quote false t
unfolding before_quote
backslash_quote b t = omega arith

plain_quote : (b : ℕ) (t : List ℕ) → eqb b 0x22 ≡ false → eqb b 0x5C ≡ false → before_quote false (b ∷ t) ≡ 1 + before_quote false t
unfolding before_quote
plain_quote b t e f = rw (e, f)

written_length : (b : ℕ) → length (written_out b) ≡ 4
unfolding written_out
written_length b = refl

piece_quote : (out : Bool) (b : ℕ) (t : List ℕ) → before_quote false (shown out b ++ t) ≡ length (shown out b) + before_quote false t
unfolding shown
piece_quote out b t =
    pick (λ (e : List ℕ). before_quote false (e ++ t) ≡ length e + before_quote false t) (out || control b) (written_out b) _
    (λ w. rw (written_length b) (written_quote b t))
    (λ w. pick (λ (e : List ℕ). before_quote false (e ++ t) ≡ length e + before_quote false t) (eqb b 0x22 || eqb b 0x5C) (0x5C ∷ b ∷ []) (b ∷ [])
    (λ u. backslash_quote b t)
    (λ u. plain_quote b t (or_left (eqb b 0x22) _ u) (or_right (eqb b 0x22) _ u)))

up_to_quote : (ascii : Bool) (s : List ℕ) (i : ℕ) (t : List ℕ) → before_quote false (escaped_up_to ascii s i ++ t) ≡ length (escaped_up_to ascii s i) + before_quote false t
unfolding escaped_up_to
up_to_quote ascii s zero t = omega arith
up_to_quote ascii s (suc i) t =
    let e : List ℕ = shown (cond ascii (leb 0x80 (get_or s i 0)) (hidden s i)) (get_or s i 0) in
    let first : List ℕ = escaped_up_to ascii s i in
    rw (append_assoc first e t, up_to_quote ascii s i (e ++ t), piece_quote (cond ascii (leb 0x80 (get_or s i 0)) (hidden s i)) (get_or s i 0) t, length-append first e) (omega arith)

-- whatever follows it, a name that is shown between quotes ends at the second of them
pub ends_at_quote : (ascii : Bool) (s rest : List ℕ) → before_quote false (escaped ascii s ++ (0x22 ∷ rest)) ≡ length (escaped ascii s)
unfolding escaped before_quote
ends_at_quote ascii s rest = rw (up_to_quote ascii s (length s) (0x22 ∷ rest)) (omega arith)
