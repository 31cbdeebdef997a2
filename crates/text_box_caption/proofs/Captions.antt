-- A label as a part of the strip.
use mathlib.Core.Path.{◌≡◌}
use mathlib.Core.Bool.{true}
use Prim.Native.Nat.{ℕ, ◌-◌, ◌≤◌}
use mathlib.Core.List.{List}
use borrow.Author.Tests.{le-leb}
use lib.ListN.{length}
use Rattle.text_box_caption.specs.Caption.{within}

pub inside : (s : List ℕ) (place long : ℕ) → place ≤ length s → long ≤ length s - place → within s place long ≡ true
inside s place long a b = rw (le-leb place (length s) a, le-leb long (length s - place) b)
