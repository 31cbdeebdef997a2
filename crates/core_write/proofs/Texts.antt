-- Steps of a writer that put text, one after the other.
use mathlib.Core.Path.{◌≡◌, refl, sym}
use Prim.Native.Nat.{ℕ}
use mathlib.Core.List.{List, ◌++◌}
use Rattle.core_write.specs.Puts.{Puts, PutsText}
use Rattle.core_write.specs.declared.writer.Writer.{Writer}
use Rattle.core_write.proofs.Chain.{◌then◌ as ◌before◌, puts_as}

-- bytes that do not depend on the order, with their own length for a count
pub puts_text : {a b : Writer} {w : ℕ} {e : List ℕ} → Puts a b w (λ order. e) → PutsText a b e
puts_text h = puts_as (sym h.put.wide) (λ order. refl) h

-- a text that is known by another name
pub puts_named : {a b : Writer} {w : ℕ} {e f : List ℕ} → e ≡ f → Puts a b w (λ order. e) → PutsText a b f
puts_named e h = puts_text (puts_as refl (λ order. e) h)

infixr 60 ◌then◌
pub ◌then◌ : {a b c : Writer} {e f : List ℕ} → PutsText a b e → PutsText b c f → PutsText a c (e ++ f)
◌then◌ h k = puts_text (h before k)
