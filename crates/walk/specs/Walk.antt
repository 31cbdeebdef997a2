-- The walk over a strip: the section at its place, and the place that it hands on.
use Rattle.std.specs.Prelude.{ℕ, List, Err, Ok}
use Rattle.core_read.specs.declared.cursor.ByteOrder.{ByteOrder}
use Rattle.strip_read.specs.Read.{read_section}
use Rattle.strip_records.specs.Whole.{Lists}
use Rattle.strip_header.specs.declared.Section.TheVariants.{End, Passed, Pane}
use Rattle.strip_read.specs.declared.read.SectionRead.{SectionRead}
use Rattle.walk.specs.declared.Step.{Step}
use Rattle.walk.specs.declared.Walk.{Walk}
use Rattle.strip_header.specs.Header.{SectionAnswer}

-- the next section's place after a pane or a passed section; at the end, and where the read is refused, the place stays
unfoldable pub place_after : ℕ → SectionAnswer → ℕ
place_after p (Ok End) = p
place_after p (Ok (Passed next)) = next
place_after p (Ok (Pane end next reach)) = next
place_after p (Err why) = p

-- THE STEP OF A WALK whose place is p: the section read at p of the strip s, with the lists l lent, and the place after it
unfoldable pub step_at : ByteOrder → List ℕ → ℕ → Lists → Step
step_at order s p l =
    let r : SectionRead = read_section order s p l in
    record { answer = r.answer; «record» = r.«record»; place = place_after p r.answer }

-- THE WALK MOVED ON by a step: the same bytes, and the place after the section read at its place
unfoldable pub moved_on : Walk → Lists → Walk
moved_on w l = record { source = w.source; place = place_after w.place (read_section w.source.order w.source.«data».now w.place l).answer }
