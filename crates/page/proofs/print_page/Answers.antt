use mathlib.Core.Path.{◌≡◌, refl, ap, ◌∙◌}
use Rattle.strip_records.specs.Whole.{Lists}
use Rattle.walk.proofs.Steps.{next_less}
use Rattle.walk.specs.Walk.{moved_on}
use Rattle.walk.specs.declared.Walk.{Walk}
use Rattle.page.proofs.print_page.Goals as goal

moved_over : (w : Walk) (l : Lists) → (moved_on w l).source.«data».now ≡ w.source.«data».now
unfolding moved_on
moved_over w l = refl

pub loop-smaller : goal.loop-smaller
loop-smaller g c = rw c.loop.invariant at (next_less c.loop.walk _ _ c.next-read.ensures.moved c.if-walk-place.false)

pub loop-preserved : goal.loop-preserved
loop-preserved g c = ap (λ (w : Walk). w.source.«data».now) c.next-read.ensures.moved ∙ moved_over _ _ ∙ c.loop.invariant
