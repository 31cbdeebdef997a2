-- The part that an answer names is the label or the caption.
use mathlib.Core.Path.{◌≡◌, refl}
use Prim.Native.Nat.{ℕ}
use mathlib.Core.Bool.{Bool, true, false, cond}
use mathlib.Core.List.{List, []}
use lib.ListN.{length, take, drop}
use lib.Seq.{take-length}
use lib.Dec.{eqb}
use Rattle.text_box_caption.specs.Caption.{within, label_of, caption_of}
use Rattle.exports_answers.specs.declared.answers.Answer.{Answer}
use Rattle.exports_answers.specs.Answers.{part_answer}
use Rattle.exports_parts.specs.Parts.{label_part, caption_part}
use Rattle.text_box_parts.specs.Parts.{Label}
use Rattle.std.specs.Prelude.{None, Some}

-- the part of s that an answer names
abbrev pub part_of : List ℕ → Answer → List ℕ
part_of s x = take x.c (drop x.b s)

label_by : (s : List ℕ) (p n : ℕ) (t : Bool) → part_of s (cond t (part_answer 0 p n) (part_answer 0 0 0)) ≡ cond t (take n (drop p s)) []
label_by s p n true = refl
label_by s p n false = refl

-- the label's part is the label
pub label_is : (s : List ℕ) (l : Label) → part_of s (label_part s l) ≡ label_of s l
label_is s None = refl
label_is s (Some span) = label_by s span.place span.length (within s span.place span.length)

-- the part of the strip (0) or of the lent caption (1) that an answer names
abbrev pub caption_by : List ℕ → List ℕ → Answer → List ℕ
caption_by s lent x = cond (eqb x.a 0) (part_of s x) (part_of lent x)

caption_by_lem : (s lent : List ℕ) (p n : ℕ) (t : Bool) → caption_by s lent (cond t (part_answer 0 p n) (part_answer 1 0 (length lent))) ≡ cond t (take n (drop p s)) lent
caption_by_lem s lent p n true = refl
caption_by_lem s lent p n false = take-length lent

-- the caption's part is the caption
pub caption_is : (s lent : List ℕ) (l : Label) → caption_by s lent (caption_part s l lent) ≡ caption_of s l lent
caption_is s lent None = take-length lent
caption_is s lent (Some span) = caption_by_lem s lent span.place span.length (within s span.place span.length)
