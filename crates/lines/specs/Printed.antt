-- What a program prints for a line of input, by its step for a line.
use Rattle.std.specs.Prelude.{ℕ, ◌≤◌, Option, Some, None, List, length}
use Rattle.std.specs.Fn.{Shared}
use denote.Ref.{Bor, MutBor}
use Rattle.core_read.specs.Bytes.{splice, Put}
use Rattle.digits.specs.declared.Line.{Line}

-- f is such a step: of a line that has ended, and the bytes that its digits have filled, it puts what `printed` says at the start of lent bytes that have room for n,
-- within these n, and answers how many it put
pub record Prints {F : Type 0} (g : Shared F (Bor (List ℕ) × (Line × (MutBor (List ℕ) × Unit {0}))) (ℕ × (MutBor (List ℕ) × Unit {0}))) (f : F) (printed : List ℕ → Line → List ℕ) (n : ℕ) : Type 0 where
  pub takes : (bytes : Bor (List ℕ)) (line : Line) (out : MutBor (List ℕ)) → n ≤ length out.now → g.pre f (bytes, (line, (out, tt)))
  pub puts : (bytes : Bor (List ℕ)) (line : Line) (out : MutBor (List ℕ)) (r : ℕ) (out' : MutBor (List ℕ)) → n ≤ length out.now → g.post f (bytes, (line, (out, tt))) (r, (out', tt))
      → Put out.now 0 (length (printed bytes.now line)) (printed bytes.now line) r out'.now × (r ≤ n)

-- what the lent bytes o hold where a line has ended: the line that is printed, at their start; else what they held
unfoldable pub printed_into : (List ℕ → Line → List ℕ) → List ℕ → Option Line → List ℕ → List ℕ
printed_into printed bytes None o = o
printed_into printed bytes (Some line) o = splice o 0 (printed bytes line)
