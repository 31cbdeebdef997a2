-- A label as a part of the strip, and the caption for the screen.
use Rattle.std.specs.Prelude.{ℕ, ◌+◌, ◌-◌, Bool, cond, ◌&&◌, List, [], length, take, drop, leb, None, Some}
use Rattle.text_box_parts.specs.Parts.{Label}

-- place and length do not pass the strip
abbrev pub within : List ℕ → ℕ → ℕ → Bool
within s place long = leb place (length s) && leb long (length s - place)

-- absent, or where place and length pass the strip, it is the empty part
abbrev pub label_of : List ℕ → Label → List ℕ
label_of s None = []
label_of s (Some span) = cond (within s span.place span.length) (take span.length (drop span.place s)) []

-- the label if there is one, otherwise the caption that is lent
abbrev pub caption_of : List ℕ → Label → List ℕ → List ℕ
caption_of s None lent = lent
caption_of s (Some span) lent = cond (within s span.place span.length) (take span.length (drop span.place s)) lent

-- the byte n of a slice that begins at this block and offset
abbrev pub byte_at : ℕ × ℕ → ℕ → ℕ × ℕ
byte_at start n = (start.0, start.1 + n)

-- the label's place in the strip; absent, or where place and length pass the strip, it is 0
abbrev pub label_place : List ℕ → Label → ℕ
label_place s None = 0
label_place s (Some span) = cond (within s span.place span.length) span.place 0

-- where the caption begins: the label in the strip if there is one, otherwise what is lent
abbrev pub caption_start : List ℕ → Label → ℕ × ℕ → ℕ × ℕ → ℕ × ℕ
caption_start s None strip lent = lent
caption_start s (Some span) strip lent = cond (within s span.place span.length) (byte_at strip span.place) lent
