-- Reads at a place, put together.
use mathlib.Core.Path.{◌≡◌, ◌∙◌}
use Prim.Native.Nat.{ℕ, ◌+◌, ◌≤◌}
use mathlib.Core.List.{List}
use lib.ListN.{length}
use Rattle.core_read.specs.Bytes.{number_at}
use Rattle.core_read.specs.Steps.{Stands}
use Rattle.core_read.specs.Taken.{advanced, number_taken, Place}
use Rattle.core_read.specs.declared.cursor.ByteOrder.{ByteOrder}
use Rattle.core_read.specs.declared.cursor.Cursor.{Cursor}
use Rattle.core_read.specs.Taken.{Taken}
use Rattle.core_read.proofs.Cursors.{pos_advanced, advanced_more}
use Rattle.core_read.proofs.Lists.{number_here}
use Rattle.std.specs.Prelude.{Ok}

-- a read that stands behind v bytes, in the run of all
pub after : {A : Type 0} {step : Place → Taken A} {to w : ℕ} {x : A} → Stands step to w x → (c : Cursor) (v : ℕ) → c.pos + v ≡ to
    → step (Ok (advanced c v)) ≡ record { value = x; then = Ok (advanced c (v + w)) }
after {to = to} h c v e =
    let p : (advanced c v).pos ≡ to = rw (pos_advanced, e) in
    h.here (advanced c v) p ∙ rw advanced_more

-- a number, as the code finds it
pub number_stands : (order : ByteOrder) (w : ℕ) (s : List ℕ) (at : ℕ) {x : ℕ} → at + w ≤ length s → x ≡ number_at order w s at
    → Stands (number_taken order w s) at w x
number_stands order w s at h f =
    record {
      here = λ c e.
          let room : c.pos + w ≤ length s = rw e h in
          rw (f, ← e, number_here order w s c room);
    }
