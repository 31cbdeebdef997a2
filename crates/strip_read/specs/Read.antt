-- A section read: what it answers, its record, and the lists after it.
use Rattle.std.specs.Prelude.{ℕ, ◌+◌, cond, List, length, eqb, Result, Err, None, Ok, Some}
use Rattle.core_checks.specs.Checks.{section_start, unless_refused}
use Rattle.core_read.specs.Taken.{Taken}
use Rattle.core_read.specs.declared.error.Refusal.{Refusal}
use Rattle.core_read.specs.declared.cursor.ByteOrder.{ByteOrder}
use Rattle.strip_records.specs.Kinds.{kind_of, KindFound}
use Rattle.strip_records.specs.Whole.{Lists, blank_record}
use Rattle.strip_kinds.specs.Body.{body_read, body_lists}
use Rattle.strip_records.specs.declared.kind.Kind.{Kind}
use Rattle.strip_records.specs.declared.record.Record.{Record}
use Rattle.strip_header.specs.Header.{read_start, header_taken, SectionAnswer}
use Rattle.strip_header.specs.declared.Header.{Header}
use Rattle.strip_kinds.specs.declared.body.BodyRead.{BodyRead}
use Rattle.strip_read.specs.declared.read.SectionRead.{SectionRead}
use Rattle.strip_read.specs.declared.read.Body.{Body}
use Rattle.strip_header.specs.declared.Section.TheVariants as Sections
use Rattle.core_read.specs.Taken.{Place}

-- ---- answers; the record is blank unless a pane was read

unfoldable pub answered_with : SectionAnswer → SectionRead
answered_with answer = record { answer = answer; «record» = blank_record }

unfoldable pub refused_with : Refusal → SectionRead
refused_with why = record { answer = Err why; «record» = blank_record }

unfoldable pub ended_with : SectionRead
ended_with = record { answer = Ok Sections.End; «record» = blank_record }

unfoldable pub passed_with : ℕ → SectionRead
passed_with next = record { answer = Ok (Sections.Passed next); «record» = blank_record }

-- the record where the body was read
unfoldable pub finished : Place → ℕ → Record → SectionRead
finished (Ok c) next r = record { answer = Ok (Sections.Pane c.pos next c.reach); «record» = r }
finished (Err why) next r = refused_with why

-- a body that is read in its section, which ends where the next begins
unfoldable pub read_body : ByteOrder → Kind → List ℕ → Place → ℕ → ℕ → SectionRead
read_body order kind s p body next =
    let b : BodyRead = body_read order kind s p body (Some next) in
    finished b.answer next b.«record»

-- other letters are passed
unfoldable pub by_kind : ByteOrder → KindFound → List ℕ → Place → ℕ → ℕ → SectionRead
by_kind order (Some kind) s p body next = read_body order kind s p body next
by_kind order None s p body next = passed_with next

unfoldable pub lists_by_kind : ByteOrder → KindFound → List ℕ → Place → ℕ → ℕ → Lists → Lists
lists_by_kind order (Some kind) s p body next l = body_lists order kind s p body (Some next) l
lists_by_kind order None s p body next l = l

-- r where no check has refused
unfoldable pub or_refused : Place → SectionRead → SectionRead
or_refused (Ok c) r = r
or_refused (Err why) r = refused_with why

-- the section at p: its header, and a body at p + 8
unfoldable pub read_at : ByteOrder → List ℕ → ℕ → SectionRead
read_at order s p =
    let h : Taken Header = header_taken order s p in
    or_refused h.then (by_kind order (kind_of h.value.letters) s h.then (p + 8) (p + h.value.size))

-- THE SECTION READ at p of s, with the lists l lent: 1, 2, 3, the end at the length, and then so
unfoldable pub read_section : ByteOrder → List ℕ → ℕ → Lists → SectionRead
read_section order s p l =
    or_refused
    (read_start (length s) p (length l.quads) (length l.units) (length l.lines) (length l.frames))
    (cond (eqb p (length s)) ended_with (read_at order s p))

-- THE SECTION AT p OF s MEASURED, with no list lent: 1, 2, the end at the length, and then so
unfoldable pub measured : ByteOrder → List ℕ → ℕ → SectionRead
measured order s p = or_refused (section_start (length s) p) (cond (eqb p (length s)) ended_with (read_at order s p))

-- the body of the section at p, where the checks before it answer q; where there is none to read, what the section read gives
unfoldable pub body_in : Place → KindFound → ℕ → Result Body SectionRead
body_in (Ok c) (Some kind) next = Ok (record { kind = kind; run = c; next = next })
body_in (Ok c) None next = Err (passed_with next)
body_in (Err why) found next = Err (refused_with why)

unfoldable pub body_at : ByteOrder → List ℕ → ℕ → Place → Result Body SectionRead
body_at order s p (Ok c) =
    let h : Taken Header = header_taken order s p in
    cond (eqb p (length s)) (Err ended_with) (body_in h.then (kind_of h.value.letters) (p + h.value.size))
body_at order s p (Err why) = Err (refused_with why)

-- a body, or with none to read the answer alone: beside the blank record that is what the section read gives
unfoldable pub with_blank : Result Body SectionAnswer → Result Body SectionRead
with_blank (Ok b) = Ok b
with_blank (Err answer) = Err (answered_with answer)

-- the lists after a section read: changed only by the body of a pane that is read
unfoldable pub lists_at : ByteOrder → List ℕ → ℕ → Lists → Lists
lists_at order s p l =
    let h : Taken Header = header_taken order s p in
    unless_refused h.then l (lists_by_kind order (kind_of h.value.letters) s h.then (p + 8) (p + h.value.size) l)

unfoldable pub lists_after : ByteOrder → List ℕ → ℕ → Lists → Lists
lists_after order s p l =
    unless_refused
    (read_start (length s) p (length l.quads) (length l.units) (length l.lines) (length l.frames))
    l
    (cond (eqb p (length s)) l (lists_at order s p l))
