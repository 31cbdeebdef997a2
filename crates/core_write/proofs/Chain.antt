-- Steps of a writer, one after the other.
use mathlib.Core.Path.{◌≡◌, refl, ◌∙◌}
use Prim.Native.Nat.{ℕ, ◌+◌}
use mathlib.Core.List.{List, [], ◌++◌}
use lib.ListN.{replicate}
use Rattle.core_read.specs.Bytes.{Put, fixed}
use Rattle.core_read.specs.declared.cursor.ByteOrder.{ByteOrder}
use Rattle.core_write.specs.Puts.{Puts}
use Rattle.core_write.specs.declared.writer.Writer.{Writer}
use Rattle.core_write.proofs.Puts.{◌then◌ as ◌before◌, put_as, put_none, put_fixed}

infixr 60 ◌then◌
pub ◌then◌ : {a b c : Writer} {v w : ℕ} {e f : ByteOrder → List ℕ} → Puts a b v e → Puts b c w f → Puts a c (v + w) (λ order. e order ++ f order)
◌then◌ {a} {b} {c} {v} {w} {e} {f} h k =
    let k' : Put b.out.now b.place w (f a.order) c.place c.out.now = rw (← h.order) k.put in
    record { order = k.order ∙ h.order; same = k.same ∙ h.same; put = h.put before k' }

-- nothing put: where a loop begins
pub puts_none : (w : Writer) → Puts w w 0 (λ order. [])
puts_none w = record { order = refl; same = refl; put = put_none _ _ }

-- the same, with the count and the bytes written in another way
pub puts_as : {a b : Writer} {v w : ℕ} {e f : ByteOrder → List ℕ} → v ≡ w → ((order : ByteOrder) → e order ≡ f order) → Puts a b v e → Puts a b w f
puts_as {a} n same h = record { order = h.order; same = h.same; put = put_as n (same a.order) h.put }

-- bytes and the zeros after them
pub puts_fixed : {a b c : Writer} {v w k : ℕ} {s : List ℕ} → v + k ≡ w → Puts a b v (λ order. s) → Puts b c k (λ order. replicate k 0)
    → Puts a c w (λ order. fixed w s)
puts_fixed e h k = record { order = k.order ∙ h.order; same = k.same ∙ h.same; put = put_fixed e h.put k.put }
