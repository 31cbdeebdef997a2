-- Reads that look at no byte past their section.
use Rattle.std.specs.Prelude.{◌≡◌, ℕ, ◌≤◌, List, [], ◌∷◌, Ok}
use Rattle.core_read.specs.declared.cursor.ByteOrder.{ByteOrder}
use Rattle.strip_records.specs.Whole.{Lists, Full}
use Rattle.strip_read.specs.Read.{read_section}
use Rattle.strip_header.specs.declared.Section.TheVariants as Sections

-- a read of s at p with l lent gives a pane and the next place e, and its reach is not past e
pub record Looked (order : ByteOrder) (s : List ℕ) (p : ℕ) (l : Lists) (e : ℕ) : Type 0 where
  pub end : ℕ
  pub reach : ℕ
  pub answer : (read_section order s p l).answer ≡ Ok (Sections.Pane end e reach)
  pub inside : reach ≤ e

-- reading s from p, section by section, each with any full lists: each read gives a pane with the next place of this list, and looks no further than it
unfoldable pub Inside : ByteOrder → List ℕ → ℕ → List ℕ → Type 0
Inside order s p [] = Unit {0}
Inside order s p (e ∷ es) = ((l : Lists) → Full l → Looked order s p l e) × Inside order s e es
