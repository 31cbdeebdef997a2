-- Labels, as the code takes them.
use mathlib.Core.Path.{◌≡◌}
use mathlib.Core.List.{List}
use Prim.Native.Nat.{ℕ, ◌+◌, ◌-◌, ◌≤◌, ◌<◌}
use native.Mathlib.Omega.{arith}
use borrow.Author.Tests.{lt-ltb, le-ltb}
use lib.Seq.{take_all}
use lib.ListN.{length, take, drop, length-drop}
use Rattle.core_read.specs.Taken.{advanced, up_to_nul, label_taken, as_count, Place}
use Rattle.core_read.specs.Taken.{Taken}
use Rattle.core_read.specs.declared.error.Refusal.{Refusal}
use Rattle.core_read.specs.declared.error.Refusal.TheVariants.{NoNul}
use Rattle.core_read.specs.declared.cursor.Cursor.{Cursor}
use Rattle.std.specs.Prelude.{Err, Ok}

-- ---- labels

-- the bytes from a place on, as the code takes them
rest : (s : List ℕ) (at n : ℕ) → n ≡ length (up_to_nul (take (length s - at) (drop at s))) → n ≡ length (up_to_nul (drop at s))
rest s at n e =
    let h : length (drop at s) ≤ length s - at = omega (arith, length-drop at s) in
    rw (take_all (length s - at) (drop at s) h) at e

module _ (s : List ℕ) (p : Place) (c : Cursor) (here : p ≡ Ok c) where
  pub label_got : (n : ℕ) (d : Cursor) → n ≡ length (up_to_nul (take (length s - c.pos) (drop c.pos s))) → c.pos + n < length s
      → d ≡ advanced c (n + 1) → ◌≡◌ {A = Taken ℕ} (record { value = n; then = Ok d }) (as_count (label_taken s p))
  unfolding label_taken
  label_got n d e h f =
      let k : n ≡ length (up_to_nul (drop c.pos s)) = rest s c.pos n e in
      rw (here, ← k, lt-ltb (c.pos + n) (length s) h, f, k)

  pub label_none : (n : ℕ) → n ≡ length (up_to_nul (take (length s - c.pos) (drop c.pos s))) → length s ≤ c.pos + n
      → ◌≡◌ {A = Taken ℕ} (record { value = 0; then = Err (NoNul c.pos) }) (as_count (label_taken s p))
  unfolding label_taken
  label_none n e h =
      let k : n ≡ length (up_to_nul (drop c.pos s)) = rest s c.pos n e in
      rw (here, ← k, le-ltb (c.pos + n) (length s) h)

  pub label_beyond : length s ≤ c.pos → ◌≡◌ {A = Taken ℕ} (record { value = 0; then = Err (NoNul c.pos) }) (as_count (label_taken s p))
  unfolding label_taken
  label_beyond h = rw (here, le-ltb (c.pos + length (up_to_nul (drop c.pos s))) (length s) (omega arith))

pub label_stays : (s : List ℕ) (p : Place) (why : Refusal) → p ≡ Err why
    → ◌≡◌ {A = Taken ℕ} (record { value = 0; then = Err why }) (as_count (label_taken s p))
unfolding label_taken
label_stays s p why here = rw here
