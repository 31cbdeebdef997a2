-- A run that was refused stays so at the parts of a text box.
use mathlib.Core.Path.{◌≡◌, refl}
use mathlib.Core.List.{List}
use mathlib.Core.Bool.{Bool, true, false, cond, not, ◌&&◌}
use Prim.Native.Nat.{ℕ}
use lib.Dec.{eqb}
use Rattle.core_read.specs.Taken as core
use Rattle.core_read.specs.Taken.{sought, number_taken, Place}
use Rattle.core_read.specs.declared.cursor.ByteOrder.{ByteOrder}
use Rattle.core_read.specs.Taken.{Taken}
use Rattle.core_read.specs.declared.error.Refusal.{Refusal}
use Rattle.core_read.proofs.Lists.{numbers_stay}
use Rattle.text_box_parts.specs.Parts.{text_at, text_taken, label_at, label_taken, lines_at, lines_taken}
use Rattle.std.specs.Prelude.{Err}

either : {A : Type 0} {q : Place} (b : Bool) (x y : Taken A) → x.then ≡ q → y.then ≡ q → (cond b x y).then ≡ q
either true x y h k = h
either false x y h k = k

module _ (order : ByteOrder) (s : List ℕ) (why : Refusal) (body : ℕ) where
  pub text_stays : (offset long : ℕ) → (text_taken order s (Err why) body offset long).then ≡ Err why
  unfolding text_taken text_at sought
  text_stays offset long = either (eqb offset 0) _ _ refl (rw numbers_stay)

  pub label_stays : (offset : ℕ) → (label_taken s (Err why) body offset).then ≡ Err why
  unfolding label_taken label_at sought core.label_taken
  label_stays offset = either (eqb offset 0) _ _ refl refl

  pub lines_stay : (line : Bool) (offset : ℕ) → (lines_taken order s (Err why) body line offset).then ≡ Err why
  unfolding lines_taken lines_at sought number_taken
  lines_stay line offset = either (line && not (eqb offset 0)) _ _ (rw (numbers_stay, numbers_stay)) refl
