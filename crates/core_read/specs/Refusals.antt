-- The number and figures of each refusal: document 01's in the order of its table, then those that document 02 adds. A figure that is not named there is 0.
use Rattle.std.specs.Prelude.{ℕ, List}
use Rattle.core_read.specs.declared.error.NumberList.{NumberList}
use Rattle.core_read.specs.declared.error.NumberList.TheVariants.{Quads, Units, Lines, Frames}
use Rattle.core_read.specs.declared.error.CheckedText.{CheckedText}
use Rattle.core_read.specs.declared.error.CheckedText.TheVariants.{PaneName, UserName, Label}
use Rattle.core_read.specs.declared.error.Refusal.{Refusal}
use Rattle.core_read.specs.declared.error.Refusal.TheVariants.{TooLong, BadPlace, ShortList, UnexpectedEof, NoNul, PerCharacter, IllFormedUtf8, SectionSize, BadName, Reserve0, ListLength, BadFlip, TextLength, IllFormedUtf16, NoLineBit, OutputEnd, PastSection}

abbrev pub number_of : Refusal → ℕ
number_of (TooLong length) = 1
number_of (BadPlace place) = 2
number_of (ShortList list need) = 3
number_of (UnexpectedEof offset requested) = 4
number_of (NoNul place) = 5
number_of (PerCharacter value) = 6
number_of (IllFormedUtf8 place which) = 7
number_of (SectionSize place size) = 8
number_of (BadName which) = 9
number_of (Reserve0 value) = 10
number_of (ListLength list length) = 11
number_of (BadFlip frame flip) = 12
number_of (TextLength units text) = 13
number_of (IllFormedUtf16 units) = 14
number_of NoLineBit = 15
number_of (OutputEnd end length) = 16
number_of (PastSection reach end) = 19

-- lists and texts are told by numbers
abbrev pub list_number : NumberList → ℕ
list_number Quads = 1
list_number Units = 2
list_number Lines = 3
list_number Frames = 4

abbrev pub text_number : CheckedText → ℕ
text_number PaneName = 1
text_number UserName = 2
text_number Label = 3

abbrev pub figure_a : Refusal → ℕ
figure_a (TooLong length) = length
figure_a (BadPlace place) = place
figure_a (ShortList list need) = list_number list
figure_a (UnexpectedEof offset requested) = offset
figure_a (NoNul place) = place
figure_a (PerCharacter value) = value
figure_a (IllFormedUtf8 place which) = place
figure_a (SectionSize place size) = place
figure_a (BadName which) = text_number which
figure_a (Reserve0 value) = value
figure_a (ListLength list length) = list_number list
figure_a (BadFlip frame flip) = frame
figure_a (TextLength units text) = units
figure_a (IllFormedUtf16 units) = units
figure_a NoLineBit = 0
figure_a (OutputEnd end length) = end
figure_a (PastSection reach end) = reach

abbrev pub figure_b : Refusal → ℕ
figure_b (TooLong length) = 0
figure_b (BadPlace place) = 0
figure_b (ShortList list need) = need
figure_b (UnexpectedEof offset requested) = requested
figure_b (NoNul place) = 0
figure_b (PerCharacter value) = 0
figure_b (IllFormedUtf8 place which) = text_number which
figure_b (SectionSize place size) = size
figure_b (BadName which) = 0
figure_b (Reserve0 value) = 0
figure_b (ListLength list length) = length
figure_b (BadFlip frame flip) = flip
figure_b (TextLength units text) = text
figure_b (IllFormedUtf16 units) = 0
figure_b NoLineBit = 0
figure_b (OutputEnd end length) = length
figure_b (PastSection reach end) = end

-- ---- an answer by number: what an accepted call answers, or the number of the row that refused it, with a and b

pub data ByNumber : Type 0 where
  accepted : List ℕ → ByNumber
  refused : ℕ → ℕ → ℕ → ByNumber

abbrev pub refusal_by_number : Refusal → ByNumber
refusal_by_number why = refused (number_of why) (figure_a why) (figure_b why)
