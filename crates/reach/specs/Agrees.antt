-- A buffer that is no shorter than another and has its bytes between two places.
use Rattle.std.specs.Prelude.{◌≡◌, ℕ, ◌≤◌, ◌<◌, List, length, get_or}

-- s' is no shorter than s, and has its bytes from lo up to r
pub record Agrees (lo r : ℕ) (s s' : List ℕ) : Type 0 where
  pub long : length s ≤ length s'
  pub same : (i : ℕ) → lo ≤ i → i < r → get_or s i 0 ≡ get_or s' i 0
