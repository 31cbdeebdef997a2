use mathlib.Core.Path.{refl, ap}
use lib.ListN.{replicate}
use Rattle.core_read.proofs.Here.{fixed_string_got}
use Rattle.core_read.proofs.Runs.{string_got, string_short}
use Rattle.core_read.proofs.text.FixedStringField.fields.Goals as goal

pub returns-then-at-data : goal.returns-then-at-data
returns-then-at-data g c = (
  refl,
  fixed_string_got _ _ _ _ _ _ (string_got _ _ _ _ _ refl _ _ _ _ _
      c.if-at-data.true c.end_of-end.ensures refl c.fill_string-count.ensures.value c.fill_string-count.ensures.out_after c.advanced-r.ensures),
)

pub returns : goal.returns
returns g c =
    ap (λ t. t.then) (fixed_string_got _ _ _ _ _ _ (string_short _ _ _ (replicate g.row.N 0) _ refl c.if-at-data.false))
