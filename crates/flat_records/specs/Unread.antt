-- What a write reads of a record's words: all that its kind has, but for counts, label place and label length.
use Rattle.std.specs.Prelude.{◌≡◌, ℕ, ◌≤◌, ◌<◌, List, [], ◌∷◌, length, get_or}
use Rattle.strip_records.specs.declared.kind.Kind.{Kind}
use Rattle.strip_records.specs.declared.kind.Kind.TheVariants.{Pan1, Pic1, Txt1, Wnd1, Ali1}
use Rattle.flat_records.specs.Records.{kind_of}

-- the words from a place up to another
pub record Range : Type 0 where
  pub from : ℕ
  pub to : ℕ

abbrev pub range : ℕ → ℕ → Range
range from to = record { from = from; to = to }

-- all words but PICTURE_QUADS; LABEL_PLACE, LABEL_LENGTH and LINES_COUNT; FRAMES_COUNT and CONTENT_QUADS
abbrev pub ranges_read : Kind → List Range
ranges_read Pan1 = range 0 62 ∷ []
ranges_read Pic1 = range 0 79 ∷ range 80 82 ∷ []
ranges_read Txt1 = range 0 112 ∷ range 114 115 ∷ []
ranges_read Wnd1 = range 0 74 ∷ range 75 92 ∷ []
ranges_read Ali1 = range 0 66 ∷ []

-- w and v have the same words in a range; in each of several
pub record Agree (w v : List ℕ) (r : Range) : Type 0 where
  pub same : (j : ℕ) → r.from ≤ j → j < r.to → get_or w j 0 ≡ get_or v j 0

abbrev pub AgreeAll : List Range → List ℕ → List ℕ → Type 0
AgreeAll [] w v = Unit {0}
AgreeAll (r ∷ rs) w v = Agree w v r × AgreeAll rs w v

-- as many words, and the same where a write reads
pub record SameRead (w v : List ℕ) : Type 0 where
  pub long : length w ≡ length v
  pub words : AgreeAll (ranges_read (kind_of (get_or w 0 0))) w v
