-- A line that spells bytes has them within its buffer.
use mathlib.Core.Path.{◌≡◌}
use mathlib.Core.Bool.{Bool, true, false, cond, ◌&&◌}
use Prim.Native.Nat.{ℕ, ◌/◌, ◌%◌, ◌≤◌}
use native.Mathlib.Omega.{arith}
use lib.Dec.{eqb, leb}
use borrow.Author.Tests.{leb-true}
use Rattle.digits.specs.Digits.{even_line}
use Rattle.digits.specs.declared.Line.{Line}

last_test : (bad even within : Bool) → cond bad false (even && within) ≡ true → within ≡ true
last_test true even within e = let z : ◌≡◌ {A = ℕ} 0 1 = cc in absurd (omega arith)
last_test false true within e = e
last_test false false within e = let z : ◌≡◌ {A = ℕ} 0 1 = cc in absurd (omega arith)

pub even_within : (l : Line) (room : ℕ) → even_line l room ≡ true → l.digits / 2 ≤ room
unfolding even_line
even_within l room e = leb-true _ _ (last_test l.bad (eqb (l.digits % 2) 0) (leb (l.digits / 2) room) e)
