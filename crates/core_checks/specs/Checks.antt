-- The checks that calls share, in the order of document 01's table and then document 02's, and what calls answer.
use Rattle.std.specs.Prelude.{ℕ, ◌*◌, ◌%◌, Bool, ◌||◌, [], ◌∷◌, ltb, Err, None, Ok, Some, Result, Option}
use Rattle.core_read.specs.Refusals.{ByNumber, accepted, refusal_by_number}
use Rattle.core_read.specs.Taken.{start, stop_if, Place}
use Rattle.core_read.specs.declared.error.NumberList.{NumberList}
use Rattle.core_read.specs.declared.error.Refusal.{Refusal}
use Rattle.core_read.specs.declared.error.Refusal.TheVariants.{TooLong, BadPlace, ShortList, ListLength, OutputEnd, PastSection}

-- what a write answers: the end of what it wrote, or why not
abbrev pub Written : Type 0
Written = Result ℕ Refusal

-- what a body that is read may look at: all of the buffer, or its section up to the section's end
abbrev pub Extent : Type 0
Extent = Option ℕ

-- 1: a buffer, or a label to write, of n bytes, longer than 16,777,216
unfoldable pub length_checked : Place → ℕ → Place
length_checked p n = stop_if p (ltb 16777216 n) (TooLong n)

-- 2, body call: B below 8 or above the length n
unfoldable pub body_checked : Place → ℕ → ℕ → Place
body_checked p n b = stop_if (stop_if p (ltb b 8) (BadPlace b)) (ltb n b) (BadPlace b)

-- 2, section call: its place P above the length n, or no multiple of 4
unfoldable pub section_checked : Place → ℕ → ℕ → Place
section_checked p n place = stop_if (stop_if p (ltb n place) (BadPlace place)) (ltb 0 (place % 4)) (BadPlace place)

-- 1 and 2 of a buffer of n bytes, from which a run begins
unfoldable pub body_start : ℕ → ℕ → Place
body_start n b = body_checked (length_checked (Ok (start b)) n) n b

unfoldable pub section_start : ℕ → ℕ → Place
section_start n place = section_checked (length_checked (Ok (start place)) n) n place

-- 3: a lent list of n numbers is short of its need
unfoldable pub list_checked : Place → NumberList → ℕ → ℕ → Place
list_checked p list need n = stop_if p (ltb n need) (ShortList list need)

-- 11: a list to write of n numbers, width an entry, is no whole number of entries, or more than 255 of them
unfoldable pub count_bad : ℕ → ℕ → Bool
count_bad width n = ltb 0 (n % width) || ltb (255 * width) n

unfoldable pub count_checked : Place → NumberList → ℕ → ℕ → Place
count_checked p list width n = stop_if p (count_bad width n) (ListLength list n)

-- 16: the end passes the output's length n
unfoldable pub end_checked : Place → ℕ → ℕ → Place
end_checked p end n = stop_if p (ltb n end) (OutputEnd end n)

-- 19, of a body that is read in a section: the first place past all bytes that it read is past the section's end. In a buffer nothing is checked
unfoldable pub reach_checked : Place → Extent → Place
reach_checked p None = p
reach_checked (Ok c) (Some end) = stop_if (Ok c) (ltb end c.reach) (PastSection c.reach end)
reach_checked (Err why) (Some end) = Err why

-- ---- what a run answers

-- the value read, or the blank one where the run was refused
unfoldable pub unless_refused : {A : Type 0} → Place → A → A → A
unless_refused (Ok c) blank value = value
unless_refused (Err why) blank value = blank

-- a write: its end
unfoldable pub written_of : Place → ℕ → Written
written_of (Ok c) end = Ok end
written_of (Err why) end = Err why

-- ---- these answers by the papers' numbers

-- the place after the body, and how far the read looked
abbrev pub parsed_by_number : Place → ByNumber
parsed_by_number (Ok c) = accepted (c.pos ∷ c.reach ∷ [])
parsed_by_number (Err why) = refusal_by_number why

-- the end of what was written
abbrev pub written_by_number : Written → ByNumber
written_by_number (Ok end) = accepted (end ∷ [])
written_by_number (Err why) = refusal_by_number why
