-- Where the figures of an accepted read lie, and what a refused read answers.
use Rattle.std.specs.Prelude.{◌≡◌, Bool, true, false, ℕ, ◌+◌, ◌≤◌, Err}
use Rattle.core_read.specs.declared.error.Refusal.{Refusal}
use Rattle.strip_records.specs.Kinds.{length_of}
use Rattle.strip_records.specs.declared.kind.Kind.{Kind}
use Rattle.strip_records.specs.declared.kind.Kind.TheVariants.{Pan1, Pic1, Txt1, Wnd1, Ali1}
use Rattle.core_read.specs.Taken.{Place}
use Rattle.strip_header.specs.Header.{SectionAnswer}

-- a kind whose parts stand at offsets
abbrev pub seeks : Kind → Bool
seeks Pan1 = false
seeks Pic1 = false
seeks Txt1 = true
seeks Wnd1 = true
seeks Ali1 = false

-- of a body at B in a buffer of n bytes: the fixed bytes of its kind lie below the reach, the end is not past it, and it is not past the buffer; of a kind
-- with no offsets the reach is the end
pub record Bounds (k : Kind) (body n end reach : ℕ) : Type 0 where
  pub fixed : body + length_of k ≤ reach
  pub ended : end ≤ reach
  pub within : reach ≤ n
  pub straight : seeks k ≡ false → reach ≡ end

pub record BodyRefused (x : Place) : Type 0 where
  pub why : Refusal
  pub refused : x ≡ Err why

pub record SectionRefused (x : SectionAnswer) : Type 0 where
  pub why : Refusal
  pub refused : x ≡ Err why
