use Rattle.std.proofs.Common.{ap, ◌∙◌}
use Rattle.strip_read.specs.declared.read.SectionRead.{SectionRead}
use Rattle.walk.specs.Walk.{place_after, moved_on}
use Rattle.walk.specs.declared.Walk.{Walk}
use Rattle.walk.proofs.Walk.next.Goals as goal

pub returns : goal.returns
unfolding moved_on
returns c =
    let w : Walk = c.args.self.now in
    let read = c.read_section-read.ensures in
    let place = c.place_after-self.ensures ∙ ap (λ (r : SectionRead). place_after w.place r.answer) read.value in
    record { value = read.value; lists_after = read.lists_after; moved = ap (λ n. record { source = w.source; place = n }) place; answer_value = read.answer_value }
