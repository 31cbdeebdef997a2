-- THE LAW: words that a read hands out pass the test of a write, and are to it the record that was read.
use mathlib.Core.Path.{◌≡◌}
use Prim.Native.Nat.{ℕ, ◌≤◌}
use mathlib.Core.Bool.{Bool, true, false, cond}
use mathlib.Core.List.{List}
use lib.ListN.{length}
use lib.Dec.{eqb}
use Rattle.core_read.specs.Bytes.{splice}
use Rattle.core_read.specs.declared.cursor.ByteOrder.{ByteOrder}
use Rattle.strip_records.specs.Typed.{Below}
use Rattle.strip_records.specs.Whole.{Lists}
use Rattle.strip_records.specs.declared.kind.Kind.{Kind}
use Rattle.strip_records.specs.declared.record.Record.{Record}
use Rattle.strip_kinds.specs.Body.{body_read, body_parsed}
use Rattle.strip_read.specs.Read.{refused_with, ended_with, passed_with, finished, read_body, by_kind, or_refused, read_at, read_section}
use Rattle.strip_read.specs.declared.read.SectionRead.{SectionRead}
use Rattle.flat_records.specs.Below.{good, words_checked}
use Rattle.flat_records.specs.Records.{record_words, record_of}
use Rattle.flat_records.specs.Typed.{TypedWords}
use Rattle.flat_records.proofs.Again.{handed_back}
use Rattle.flat_records.proofs.Passed.{handed_good}
use Rattle.exports_read.proofs.Given.{Given, blank_given, body_given, parsed_given}
use Rattle.core_read.specs.Taken.{Place}
use Rattle.strip_records.specs.Kinds.{KindFound}
use Rattle.std.specs.Prelude.{Err, None, Ok, Some}

-- ---- the record of a section read

finished_given : (a : Place) (next : ℕ) (r : Record) → Given r → Given (finished a next r).«record»
unfolding finished refused_with
finished_given (Ok c) next r g = g
finished_given (Err why) next r g = blank_given

kind_given : (order : ByteOrder) (k : KindFound) (s : List ℕ) (p : Place) (body next : ℕ) → Below 256 s → Given (by_kind order k s p body next).«record»
unfolding by_kind read_body passed_with
kind_given order (Some k) s p body next h =
    let b = body_read order k s p body (Some next) in
    finished_given b.answer next b.«record» (body_given order k s p body (Some next) h)
kind_given order None s p body next h = blank_given

refused_given : (p : Place) (r : SectionRead) → Given r.«record» → Given (or_refused p r).«record»
unfolding or_refused refused_with
refused_given (Ok c) r g = g
refused_given (Err why) r g = blank_given

end_given : (t : Bool) (r : SectionRead) → Given r.«record» → Given (cond t ended_with r).«record»
unfolding ended_with
end_given true r g = blank_given
end_given false r g = g

at_given : (order : ByteOrder) (s : List ℕ) (p : ℕ) → Below 256 s → Given (read_at order s p).«record»
unfolding read_at
at_given order s p h = refused_given _ _ (kind_given order _ s _ _ _ h)

section_given : (order : ByteOrder) (s : List ℕ) (p : ℕ) (l : Lists) → Below 256 s → Given (read_section order s p l).«record»
unfolding read_section
section_given order s p l h = refused_given _ _ (end_given (eqb p (length s)) (read_at order s p) (at_given order s p h))

-- ---- THE LAW. Bytes are below 256, and a record has 116 words: no more is asked

-- r is as the types of the code say; stored over w, its words pass the test of a write, and are r again
pub record Again (r : Record) (w : List ℕ) : Type 0 where
  pub typed : TypedWords r
  pub good : words_checked (splice w 0 (record_words r)) ≡ good
  pub same : record_of (splice w 0 (record_words r)) ≡ r

again : (r : Record) (w : List ℕ) → Given r → 116 ≤ length w → Again r w
again r w g h = record { typed = g.typed; good = handed_good r w g.typed h; same = handed_back r w g.typed g.others h }

pub section_again : (order : ByteOrder) (s : List ℕ) (p : ℕ) (l : Lists) (w : List ℕ) → Below 256 s → 116 ≤ length w → Again (read_section order s p l).«record» w
section_again order s p l w b h = again (read_section order s p l).«record» w (section_given order s p l b) h

pub body_again : (order : ByteOrder) (k : Kind) (s : List ℕ) (body : ℕ) (l : Lists) (w : List ℕ) → Below 256 s → 116 ≤ length w → Again (body_parsed order k s body l).«record» w
body_again order k s body l w b h = again (body_parsed order k s body l).«record» w (parsed_given order k s body l b) h
