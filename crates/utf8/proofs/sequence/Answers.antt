use mathlib.Core.Path.{◌≡◌, sym, ap, ◌∙◌}
use native.Mathlib.Omega.{arith}
use Rattle.std.specs.Option.{option_copied}
use Rattle.utf8.specs.Utf8.{takes}
use Rattle.utf8.proofs.Rows.{row_small, fits_first, fits_more, sequence_none, sequence_short, sequence_bad, sequence_good}
use Rattle.utf8.proofs.sequence.Goals as goal

pub returns-in_err-row : goal.returns-in_err-row
returns-in_err-row c = c.from_residual.ensures ∙ sym (sequence_none _ (sym c.row_of.ensures ∙ ap option_copied c.in_err-row.was))

pub returns-then-s-count : goal.returns-then-s-count
returns-then-s-count c = sym (sequence_short _ _ (sym c.row_of.ensures ∙ ap option_copied c.in_ok-row.was) c.if-s-count.true)

pub loop-j-init : goal.loop-j-init
loop-j-init c = fits_first _ _ (sym c.row_of.ensures ∙ ap option_copied c.in_ok-row.was)

pub bounds-row-j : goal.bounds-row-j
bounds-row-j c = omega (arith, row_small c.args.s.now c.in_ok-row.row.now (sym c.row_of.ensures ∙ ap option_copied c.in_ok-row.was))

pub bounds-row-j-in-loop-j : goal.bounds-row-j-in-loop-j
bounds-row-j-in-loop-j c = omega (arith, row_small c.args.s.now c.in_ok-row.row.now (sym c.row_of.ensures ∙ ap option_copied c.in_ok-row.was))

pub returns-then-not-fits : goal.returns-then-not-fits
unfolding takes
returns-then-not-fits c =
    sym (sequence_bad _ _ (sym c.row_of.ensures ∙ ap option_copied c.in_ok-row.was) c.loop-j.j c.loop-j-test.true c.if-not-fits.true)

pub loop-j-preserved : goal.loop-j-preserved
unfolding takes
loop-j-preserved c = fits_more _ _ _ c.loop-j.invariant c.if-not-fits.false

pub returns : goal.returns
returns c =
    let row = c.in_ok-row.row.now in
    let found = sym c.row_of.ensures ∙ ap option_copied c.in_ok-row.was in
    let last : c.loop-j.j ≡ row.count = omega (arith, row_small c.args.s.now row found) in
    sym (sequence_good c.args.s.now row found c.if-s-count.false (rw last at c.loop-j.invariant))
