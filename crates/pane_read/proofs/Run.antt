-- A read of a run that was refused.
use mathlib.Core.Path.{◌≡◌, refl}
use mathlib.Core.List.{List}
use Prim.Native.Nat.{ℕ}
use Rattle.core_read.specs.Taken.{number_taken, string_taken, fixed_string_taken}
use Rattle.core_read.specs.declared.error.Refusal.{Refusal}
use Rattle.core_read.specs.declared.cursor.ByteOrder.{ByteOrder}
use Rattle.ui2d.specs.Parts.{vector2_taken, vector3_taken}
use Rattle.pane_read.specs.Pane.{pane_taken}
use Rattle.std.specs.Prelude.{Err}

-- a run that was refused stays so
pub pane_stays : (order : ByteOrder) (s : List ℕ) (why : Refusal) → (pane_taken order s (Err why)).then ≡ Err why
unfolding pane_taken vector2_taken vector3_taken fixed_string_taken string_taken number_taken
pane_stays order s why = refl
