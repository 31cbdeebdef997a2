-- A run of steps over bytes: each starts where the one before it ended, and does nothing once one was refused.
use Rattle.std.specs.Prelude.{ℕ, ◌+◌, ◌-◌, max, Bool, true, false, cond, List, [], ◌∷◌, ◌++◌, length, drop, replicate, leb, ltb, eqb, Err, Ok, Result, ℤ}
use Rattle.core_read.specs.Bytes.{part, number_at, signed_of}
use Rattle.core_read.specs.declared.error.Refusal.{Refusal}
use Rattle.core_read.specs.declared.error.Refusal.TheVariants.{UnexpectedEof, NoNul}
use Rattle.core_read.specs.declared.cursor.ByteOrder.{ByteOrder}
use Rattle.core_read.specs.declared.cursor.Cursor.{Cursor}
use Rattle.core_read.specs.declared.text.FixedString.{FixedString}

-- where a run of steps stands: at a cursor, or refused; a refused run does nothing more
abbrev pub Place : Type 0
Place = Result Cursor Refusal

-- ---- where a cursor begins, and the only two ways in which it moves: width bytes were read; it was set to a place.
-- Its reach is the first place past all bytes that were read: a read of no bytes and a move leave it as it is.

unfoldable pub start : ℕ → Cursor
start place = record { pos = place; reach = place }

unfoldable pub advanced : Cursor → ℕ → Cursor
advanced c width = cond (eqb width 0) c (record { pos = c.pos + width; reach = max c.reach (c.pos + width) })

unfoldable pub moved : Cursor → ℕ → Cursor
moved c to = record { pos = to; reach = c.reach }

-- its cursor, which is of no meaning where it was refused
abbrev pub cursor_of : Place → Cursor
cursor_of (Ok c) = c
cursor_of (Err why) = start 0

-- ---- steps that read nothing

-- a check: the same place, or the refusal where it is bad
unfoldable pub stop_if : Place → Bool → Refusal → Place
stop_if (Ok c) bad why = cond bad (Err why) (Ok c)
stop_if (Err first) bad why = Err first

-- a seek: to the length it succeeds; beyond it is 4 with the length and the excess
unfoldable pub sought : List ℕ → Place → ℕ → Place
sought s (Ok c) to = cond (leb to (length s)) (Ok (moved c to)) (Err (UnexpectedEof (length s) (to - length s)))
sought s (Err first) to = Err first

-- ---- reads: what was read, and where the run stands then

pub record Taken (A : Type 0) : Type 0 where
  pub value : A
  pub then : Place

-- a number of width bytes; 4 with the place and the width where fewer are left
unfoldable pub number_taken : ByteOrder → ℕ → List ℕ → Place → Taken ℕ
number_taken order width s (Ok c) =
    cond (leb (c.pos + width) (length s))
    (record { value = number_at order width s c.pos; then = Ok (advanced c width) })
    (record { value = 0; then = Err (UnexpectedEof c.pos width) })
number_taken order width s (Err why) = record { value = 0; then = Err why }

-- the bytes before the first NUL
unfoldable pub up_to_nul : List ℕ → List ℕ
up_to_nul [] = []
up_to_nul (b ∷ bs) = cond (eqb b 0) [] (b ∷ up_to_nul bs)

-- a byte that is 0
unfoldable pub has_zero : List ℕ → Bool
has_zero [] = false
has_zero (x ∷ xs) = cond (eqb x 0) true (has_zero xs)

-- l laid over the front of old
abbrev pub over : List ℕ → List ℕ → List ℕ
over l old = l ++ drop (length l) old

-- a fixed string of a width: the bytes before the first NUL of the at most width bytes that are left; 4 with the full width where none is
unfoldable pub string_taken : ℕ → List ℕ → Place → Taken (List ℕ)
string_taken width s (Ok c) =
    cond (ltb c.pos (length s))
    (record { value = up_to_nul (part width s c.pos); then = Ok (advanced c (length (part width s c.pos))) })
    (record { value = []; then = Err (UnexpectedEof c.pos width) })
string_taken width s (Err why) = record { value = []; then = Err why }

-- a string that ends at a NUL, which is read too: its bytes; 5 with its place where no NUL is met
unfoldable pub label_taken : List ℕ → Place → Taken (List ℕ)
label_taken s (Ok c) =
    let label : List ℕ = up_to_nul (drop c.pos s) in
    cond (ltb (c.pos + length label) (length s))
    (record { value = label; then = Ok (advanced c (length label + 1)) })
    (record { value = []; then = Err (NoNul c.pos) })
label_taken s (Err why) = record { value = []; then = Err why }

-- ---- the same in the types of the code

abbrev pub as_i16 : Taken ℕ → Taken ℤ
as_i16 t = record { value = signed_of t.value; then = t.then }

abbrev pub as_count : Taken (List ℕ) → Taken ℕ
as_count t = record { value = length t.value; then = t.then }

abbrev pub u8_taken : ByteOrder → List ℕ → Place → Taken ℕ
u8_taken order s p = number_taken order 1 s p

abbrev pub u16_taken : ByteOrder → List ℕ → Place → Taken ℕ
u16_taken order s p = number_taken order 2 s p

abbrev pub u32_taken : ByteOrder → List ℕ → Place → Taken ℕ
u32_taken order s p = number_taken order 4 s p

abbrev pub i16_taken : ByteOrder → List ℕ → Place → Taken ℤ
i16_taken order s p = as_i16 (number_taken order 2 s p)

-- the string of at most n bytes that holds given bytes, with zeros after them
abbrev pub string_of : (n : ℕ) → List ℕ → FixedString n
string_of n l = record { bytes = over l (replicate n 0); count = length l }

unfoldable pub fixed_string_taken : (n : ℕ) → List ℕ → Place → Taken (FixedString n)
fixed_string_taken n s p = let t : Taken (List ℕ) = string_taken n s p in record { value = string_of n t.value; then = t.then }
