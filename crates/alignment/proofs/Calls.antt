-- The body read as the code takes it.
use mathlib.Core.Path.{◌≡◌, refl}
use Prim.Native.Nat.{ℕ}
use mathlib.Core.List.{List}
use Rattle.core_read.specs.Taken.{number_taken}
use Rattle.core_checks.specs.Checks.{Extent}
use Rattle.core_read.specs.declared.error.Refusal.{Refusal}
use Rattle.core_read.specs.declared.cursor.ByteOrder.{ByteOrder}
use Rattle.core_checks.proofs.Checked.{reach_stays}
use Rattle.pane_read.specs.Pane.{pane_taken}
use Rattle.pane_read.proofs.Run.{pane_stays}
use Rattle.pane.proofs.Calls.{texts_stay}
use Rattle.alignment_fields.specs.Alignment.{alignment_taken}
use Rattle.alignment.specs.Body.{alignment_measured}
use Rattle.std.specs.Prelude.{Err}

-- a run that was refused stays so
pub alignment_stays : (order : ByteOrder) (s : List ℕ) (why : Refusal) → (alignment_taken order s (Err why)).then ≡ Err why
unfolding alignment_taken number_taken
alignment_stays order s why = refl

pub measured_stays : (order : ByteOrder) (s : List ℕ) (why : Refusal) (body : ℕ) (x : Extent) → (alignment_measured order s (Err why) body x).then ≡ Err why
unfolding alignment_measured
measured_stays order s why body x =
    rw (pane_stays order s why, alignment_stays order s why, texts_stay why (pane_taken order s (Err why)).value body, reach_stays why x)
