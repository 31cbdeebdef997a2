-- Reads where the bytes are there: what stands there, and the cursor after it.
use mathlib.Core.Path.{◌≡◌, ap, ◌∙◌}
use Prim.Native.Nat.{ℕ, ◌+◌, ◌-◌, ◌*◌, ◌≤◌, ◌<◌}
use native.Mathlib.Omega.{arith}
use mathlib.Core.List.{List}
use lib.ListN.{length, take, drop, replicate, length-drop}
use lib.Seq.{length-take-le}
use borrow.Author.Tests.{lt-ltb}
use Rattle.core_read.specs.Bytes.{part}
use Rattle.core_read.specs.Taken.{start, advanced, up_to_nul, string_taken, string_of, fixed_string_taken, Place}
use Rattle.core_read.specs.Taken.{Taken}
use Rattle.core_read.specs.Lists.{numbers_taken, numbers_at}
use Rattle.core_read.specs.declared.cursor.ByteOrder.{ByteOrder}
use Rattle.core_read.specs.declared.cursor.Cursor.{Cursor}
use Rattle.core_read.proofs.Cursors.{pos_start}
use Rattle.core_read.proofs.Runs.{Read}
use Rattle.core_read.proofs.Lists.{numbers_here}
use Rattle.std.specs.Prelude.{Ok}
use Rattle.core_read.specs.declared.text.FixedString.{FixedString}

-- as many bytes as are asked for
length_part : (w : ℕ) (s : List ℕ) (at : ℕ) → at + w ≤ length s → length (part w s at) ≡ w
unfolding part
length_part w s at h = length-take-le w (drop at s) (omega (arith, length-drop at s))

-- the bytes from a place to the end of their width
pub part_to : (w : ℕ) (s : List ℕ) (at : ℕ) → take (at + w - at) (drop at s) ≡ part w s at
unfolding part
part_to w s at =
    let e : at + w - at ≡ w = omega arith in
    rw e

pub string_here : (w : ℕ) (s : List ℕ) (c : Cursor) → 0 < w → c.pos + w ≤ length s
    → ◌≡◌ {A = Taken (List ℕ)} (string_taken w s (Ok c)) (record { value = up_to_nul (part w s c.pos); then = Ok (advanced c w) })
unfolding string_taken
string_here w s c n h = rw (lt-ltb c.pos (length s) (omega arith), length_part w s c.pos h)

-- a fixed string, as a step of the code leaves it
pub fixed_string_got : (n : ℕ) (s : List ℕ) (p then : Place) (count : ℕ) (out : List ℕ) → Read n s p (replicate n 0) count then out
    → ◌≡◌ {A = Taken (FixedString n)} (fixed_string_taken n s p) (record { value = record { bytes = out; count = count }; then = then })
unfolding fixed_string_taken
fixed_string_got n s p then count out r = rw (r.1, ap (λ t. t.value) r.0, ap (λ t. t.then) r.0)

-- of one whose bytes are all there
pub fixed_string_here : (n : ℕ) (s : List ℕ) (c : Cursor) → c.pos < length s → c.pos + n ≤ length s
    → ◌≡◌ {A = Taken (FixedString n)} (fixed_string_taken n s (Ok c)) (record { value = string_of n (up_to_nul (part n s c.pos)); then = Ok (advanced c n) })
unfolding fixed_string_taken string_taken
fixed_string_here n s c z h = rw (lt-ltb c.pos (length s) z, length_part n s c.pos h)

-- the numbers from a place on
pub numbers_start : (order : ByteOrder) (w n : ℕ) (s : List ℕ) (at : ℕ) → at + w * n ≤ length s
    → (numbers_taken order w n s (Ok (start at))).value ≡ numbers_at order w n s at
numbers_start order w n s at h =
    let k : (start at).pos + w * n ≤ length s = rw pos_start h in
    ap (λ t. t.value) (numbers_here order w s n (start at) k) ∙ ap (numbers_at order w n s) (pos_start at)
