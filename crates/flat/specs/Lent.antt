-- Lent words that are enough for a record, and what a store leaves of them.
use Rattle.std.specs.Prelude.{◌≡◌, ℕ, ◌<◌, List, length, Option, None, Some}
use Rattle.flat.specs.Words.{Stored}
use Rattle.flat.specs.declared.words.Words.{Words}
use Rattle.flat.specs.declared.words.WordsMut.{WordsMut}

-- words that are lent are a record's, or are too few
abbrev pub IsRecord : Option Words → List ℕ → Type 0
IsRecord None w = length w < 116
IsRecord (Some r) w = r.words.now ≡ w

-- the words e were stored from p on, into the words that stay lent, and no other word changed
pub record Stores (old new : WordsMut) (p : ℕ) (e : List ℕ) : Type 0 where
  pub same : new.words.ghost_name ≡ old.words.ghost_name
  pub stored : Stored old.words.now p e new.words.now
