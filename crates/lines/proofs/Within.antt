-- A write that was let through ends within its output.
use mathlib.Core.Path.{◌≡◌, refl}
use Prim.Native.Nat.{ℕ, ◌≤◌}
use native.Mathlib.Omega.{arith}
use Rattle.core_checks.specs.Checks.{written_of}
use Rattle.strip_records.specs.Whole.{Whole}
use Rattle.strip_write.specs.Write.{section_end, write_checked, write_answer}
use Rattle.strip_write.proofs.Cleared.{write_cleared}
use Rattle.core_read.specs.Taken.{Place}
use Rattle.std.specs.Prelude.{Err, Ok}

within_by : (w : Whole) (n p e : ℕ) (q : Place) → write_checked w n p ≡ q → written_of q (section_end p w) ≡ Ok e → e ≤ n
unfolding written_of
within_by w n p e (Ok c) h k =
    let fits = (write_cleared w n p c h).fits in
    let end : section_end p w ≡ e = cc in
    omega (arith, fits, end)
within_by w n p e (Err why) h k = let z : ◌≡◌ {A = ℕ} 0 1 = cc in absurd (omega arith)

pub written_within : (w : Whole) (n p e : ℕ) → write_answer w n p ≡ Ok e → e ≤ n
unfolding write_answer
written_within w n p e h = within_by w n p e (write_checked w n p) refl h
