-- What a writer is before and after a step that puts bytes.
use Rattle.std.specs.Prelude.{◌≡◌, ℕ, List, length}
use Rattle.core_read.specs.Bytes.{Room, Put}
use Rattle.core_read.specs.declared.cursor.ByteOrder.{ByteOrder}
use Rattle.core_write.specs.declared.writer.Writer.{Writer}

-- n bytes have room from the writer's place on
abbrev pub HasRoom : Writer → ℕ → Type 0
HasRoom w n = Room w.out.now w.place n

-- the n bytes, which may depend on the order, were put at the old writer's place: the new one stands behind them, in the same output and order
pub record Puts (old new : Writer) (n : ℕ) (bytes : ByteOrder → List ℕ) : Type 0 where
  pub order : new.order ≡ old.order
  pub same : new.out.ghost_name ≡ old.out.ghost_name
  pub put : Put old.out.now old.place n (bytes old.order) new.place new.out.now

-- a text was put, whose bytes are the same in both orders
abbrev pub PutsText : Writer → Writer → List ℕ → Type 0
PutsText old new text = Puts old new (length text) (λ order. text)
