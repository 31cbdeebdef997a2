-- Before a section is read: 1, 2 and 3, then the header and 8.
use Rattle.std.specs.Prelude.{ℕ, ◌+◌, ◌-◌, ◌%◌, Bool, ◌||◌, List, [], ◌∷◌, length, ltb, Result, Err, Ok}
use Rattle.core_read.specs.Refusals.{ByNumber, accepted, refusal_by_number}
use Rattle.core_read.specs.Taken.{start, stop_if, u32_taken, Place}
use Rattle.core_read.specs.Taken.{Taken}
use Rattle.core_checks.specs.Checks.{section_start, list_checked}
use Rattle.core_read.specs.declared.error.Refusal.{Refusal}
use Rattle.core_read.specs.declared.error.Refusal.TheVariants.{SectionSize}
use Rattle.core_read.specs.declared.cursor.ByteOrder.{ByteOrder}
use Rattle.core_read.specs.declared.cursor.ByteOrder.TheVariants.{Little}
use Rattle.strip_header.specs.declared.Header.{Header}
use Rattle.strip_header.specs.declared.Section.{Section}
use Rattle.strip_header.specs.declared.Section.TheVariants as Sections
use Rattle.core_read.specs.declared.error.NumberList.TheVariants.{Quads, Units, Lines, Frames}

-- what a section read answers: the end, a section that is passed, a pane, or why not
abbrev pub SectionAnswer : Type 0
SectionAnswer = Result Section Refusal

-- 1, 2, and 3 of four lists with so many numbers: quads 2,040, units 32,767, lines 510, frames 510
unfoldable pub read_start : ℕ → ℕ → ℕ → ℕ → ℕ → ℕ → Place
read_start n p quads units lines frames =
    list_checked (list_checked (list_checked (list_checked (section_start n p) Quads 2040 quads) Units 32767 units) Lines 510 lines) Frames 510 frames

-- 8, of a section at p of n bytes: size below 8, no multiple of 4, or past the buffer
unfoldable pub size_bad : ℕ → ℕ → ℕ → Bool
size_bad n p size = (ltb size 8 || ltb 0 (size % 4)) || ltb (n - p) size

-- letters and size, four bytes each, and 8
unfoldable pub header_taken : ByteOrder → List ℕ → ℕ → Taken Header
header_taken order s p =
    let letters : Taken ℕ = u32_taken Little s (Ok (start p)) in
    let size : Taken ℕ = u32_taken order s letters.then in
    record {
      value = record { letters = letters.value; size = size.value };
      then = stop_if size.then (size_bad (length s) p size.value) (SectionSize (p + 4) size.value);
    }

-- what a section read answers, by the papers' numbers: nothing at the end; the next section of one that is passed; of a pane the place after the body, the next section and how far the read looked
abbrev pub section_by_number : SectionAnswer → ByNumber
section_by_number (Ok Sections.End) = accepted []
section_by_number (Ok (Sections.Passed next)) = accepted (next ∷ [])
section_by_number (Ok (Sections.Pane end next reach)) = accepted (end ∷ next ∷ reach ∷ [])
section_by_number (Err why) = refusal_by_number why
