-- An alignment pane's own fields are read back, anywhere in a buffer.
use mathlib.Core.Path.{◌≡◌, refl}
use Prim.Native.Nat.{ℕ, ◌+◌, ◌^◌, ◌<◌}
use native.Mathlib.Nat.{add-zero}
use native.Mathlib.Omega.{arith}
use mathlib.Core.Bool.{Bool, true, false}
use mathlib.Core.List.{List}
use lib.ListN.{length, length-append}
use lib.Dec.{lit≤}
use Rattle.core_read.specs.Taken.{advanced}
use Rattle.core_read.specs.declared.cursor.ByteOrder.{ByteOrder}
use Rattle.core_read.specs.declared.cursor.Cursor.{Cursor}
use Rattle.core_read.proofs.Numbers.{length_bytes}
use Rattle.core_read.proofs.Cursors.{advanced_zero}
use Rattle.core_read.proofs.Back.{Holds, cut, number_at_lem}
use Rattle.pane_read.specs.Pane.{Sound}
use Rattle.pane_read.specs.declared.Pane.{Pane}
use Rattle.pane.proofs.Back.{length_pane}
use Rattle.alignment_fields.specs.Alignment.{byte_bool, bool_byte, alignment_taken, encode_alignment, TypedAlignment}
use Rattle.alignment.specs.Body.{encode_body}
use Rattle.alignment_fields.specs.declared.AlignmentPane.{AlignmentPane}
use Rattle.core_read.specs.Taken.{Taken}
use Rattle.std.specs.Prelude.{Ok}

bool_back : (b : Bool) → byte_bool (bool_byte b) ≡ b
bool_back true = refl
bool_back false = refl

bool_fit : (b : Bool) → bool_byte b < 256 ^ 1
bool_fit true = omega arith
bool_fit false = omega arith

pub length_alignment : (order : ByteOrder) (a : AlignmentPane) → length (encode_alignment order a) ≡ 12
unfolding encode_alignment
length_alignment order a = simp (length-append, length_bytes)

from : {s : List ℕ} (c : Cursor) (order : ByteOrder) (a : AlignmentPane) → TypedAlignment a → Holds s (c.pos + 0) (encode_alignment order a)
    → ◌≡◌ {A = Taken AlignmentPane} (alignment_taken order s (Ok (advanced c 0))) (record { value = a; then = Ok (advanced c 12) })
unfolding encode_alignment alignment_taken
from c order a t h =
    let (a₁, r₁) = cut c 0 4 _ _ (length_bytes order 4 a.direction) h in
    let (a₂, r₂) = cut c 4 4 _ _ (length_bytes order 4 a.default_margin.bits) r₁ in
    let (a₃, r₃) = cut c 8 1 _ _ (length_bytes order 1 (bool_byte a.is_align_last_pane)) r₂ in
    let (a₄, a₅) = cut c 9 1 _ _ (length_bytes order 1 (bool_byte a.is_vertical_alignment)) r₃ in
    rw (
      number_at_lem c order 0 4 a.direction t.direction a₁,
      number_at_lem c order 4 4 a.default_margin.bits t.margin a₂,
      number_at_lem c order 8 1 (bool_byte a.is_align_last_pane) (bool_fit a.is_align_last_pane) a₃,
      number_at_lem c order 9 1 (bool_byte a.is_vertical_alignment) (bool_fit a.is_vertical_alignment) a₄,
      number_at_lem c order 10 2 0 (lit≤ tt) a₅,
      bool_back a.is_align_last_pane,
      bool_back a.is_vertical_alignment,
    )

pub alignment_back : {s : List ℕ} (c : Cursor) (order : ByteOrder) (a : AlignmentPane) → TypedAlignment a → Holds s c.pos (encode_alignment order a)
    → ◌≡◌ {A = Taken AlignmentPane} (alignment_taken order s (Ok c)) (record { value = a; then = Ok (advanced c 12) })
alignment_back {s} c order a t h =
    let k : Holds s (c.pos + 0) (encode_alignment order a) = rw (add-zero c.pos) h in
    rw (advanced_zero c) at (from {s = s} c order a t k)

pub length_body : (order : ByteOrder) (b : Pane) (a : AlignmentPane) → Sound b → length (encode_body order b a) ≡ 88
unfolding encode_body
length_body order b a h = rw (length-append, length_pane order b h, length_alignment order a)
