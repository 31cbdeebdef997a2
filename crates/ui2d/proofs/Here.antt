-- A quad where all its bytes are there: by its corners, as the code finds them.
use mathlib.Core.Path.{◌≡◌, sym, ap, ◌∙◌}
use Prim.Native.Nat.{ℕ, ◌+◌, ◌≤◌}
use native.Mathlib.Nat.{add_assoc}
use native.Mathlib.Omega.{arith}
use mathlib.Core.List.{List}
use lib.ListN.{length}
use Rattle.core_read.specs.Steps.{Stands}
use Rattle.core_read.specs.Taken.{start, Place}
use Rattle.core_read.specs.Taken.{Taken}
use Rattle.core_read.specs.Lists.{numbers_at}
use Rattle.core_read.specs.declared.cursor.ByteOrder.{ByteOrder}
use Rattle.core_read.proofs.Cursors.{pos_start}
use Rattle.core_read.proofs.Here.{numbers_start}
use Rattle.ui2d.specs.Parts.{vector2_taken}
use Rattle.ui2d.specs.Quads.{vector_at, quad_at}
use Rattle.ui2d.specs.declared.Vector2f.{Vector2f}
use Rattle.ui2d.specs.declared.Quad.{Quad}
use Rattle.ui2d.proofs.Parts.{vector2_run}
use Rattle.std.specs.Prelude.{Ok}

-- what stands at a place is what a read from there gives
stands_value : {A : Type 0} {step : Place → Taken A} {at w : ℕ} {v : A} → Stands step at w v → v ≡ (step (Ok (start at))).value
stands_value {at = at} h = sym (ap (λ t. t.value) (h.here (start at) (pos_start at)))

module _ (order : ByteOrder) (s : List ℕ) (at : ℕ) where
  vector2_numbers : {v : Vector2f} → at + 8 ≤ length s → Stands (vector2_taken order s) at 8 v → v ≡ vector_at (numbers_at order 4 2 s at) 0
  vector2_numbers h e =
      stands_value e
      ∙ ap (λ t. t.value) (vector2_run order s (Ok (start at)))
      ∙ ap (λ (l : List ℕ). vector_at l 0) (numbers_start order 4 2 s at h)

module _ (order : ByteOrder) (s : List ℕ) (at : ℕ) where
  pub quad_made : at + 32 ≤ length s → {tl tr bl br : Vector2f}
      → Stands (vector2_taken order s) at 8 tl → Stands (vector2_taken order s) (at + 8) 8 tr
      → Stands (vector2_taken order s) (at + 16) 8 bl → Stands (vector2_taken order s) (at + 24) 8 br
      → ◌≡◌ {A = Quad} (record { top_left = tl; top_right = tr; bottom_left = bl; bottom_right = br }) (quad_at (numbers_at order 4 8 s at) 0)
  unfolding quad_at vector_at numbers_at
  quad_made h e f g i =
      rw (
        vector2_numbers order s at (omega arith) e,
        vector2_numbers order s (at + 8) (omega arith) f,
        vector2_numbers order s (at + 16) (omega arith) g,
        vector2_numbers order s (at + 24) (omega arith) i,
      )
      (simp add_assoc)
