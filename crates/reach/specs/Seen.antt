-- Whatever a read gives of a buffer.
use Rattle.std.specs.Prelude.{ℕ, List, Ok}
use Rattle.core_read.specs.Taken.{start}
use Rattle.core_read.specs.declared.cursor.ByteOrder.{ByteOrder}
use Rattle.strip_records.specs.Whole.{Lists}
use Rattle.strip_records.specs.declared.kind.Kind.{Kind}
use Rattle.strip_kinds.specs.Body.{body_read, body_lists, body_parsed, lists_parsed}
use Rattle.strip_kinds.specs.declared.body.BodyRead.{BodyRead}
use Rattle.strip_read.specs.Read.{read_section, lists_after}
use Rattle.strip_read.specs.declared.read.SectionRead.{SectionRead}
use Rattle.strip.specs.Same.{label_in}
use Rattle.core_checks.specs.Checks.{Extent}

-- a body read: its answer and record, the lists after it, and the label in the buffer
pub record BodySeen : Type 0 where
  pub read : BodyRead
  pub lists : Lists
  pub label : List ℕ

-- of a run that begins at B, after the checks 1 to 3, in a buffer or in a section
abbrev pub body_seen : ByteOrder → Kind → ℕ → Extent → Lists → List ℕ → BodySeen
body_seen order k body x l s = record {
  read = body_read order k s (Ok (start body)) body x;
  lists = body_lists order k s (Ok (start body)) body x l;
  label = label_in s (body_read order k s (Ok (start body)) body x).«record»;
}

-- of the call
abbrev pub call_seen : ByteOrder → Kind → ℕ → Lists → List ℕ → BodySeen
call_seen order k body l s = record {
  read = body_parsed order k s body l;
  lists = lists_parsed order k s body l;
  label = label_in s (body_parsed order k s body l).«record»;
}

-- a section read likewise
pub record SectionSeen : Type 0 where
  pub read : SectionRead
  pub lists : Lists
  pub label : List ℕ

abbrev pub section_seen : ByteOrder → ℕ → Lists → List ℕ → SectionSeen
section_seen order p l s = record {
  read = read_section order s p l;
  lists = lists_after order s p l;
  label = label_in s (read_section order s p l).«record»;
}
