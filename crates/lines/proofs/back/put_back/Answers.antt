use mathlib.Core.Path.{sym, ◌∙◌}
use lib.ListN.{replicate}
use lib.Seq.{length-take-le}
use native.Mathlib.Omega.{arith}
use Rattle.core_write.proofs.Texts.{puts_named}
use Rattle.lines.proofs.Within.{written_within}
use Rattle.lines.proofs.Made.{back_made}
use Rattle.lines.proofs.back.put_back.Goals as goal

pub slice_bounds-content-end : goal.slice_bounds-content-end
slice_bounds-content-end c = sym (length-take-le _ _ (omega arith))

pub slice_bounds-content-end-2 : goal.slice_bounds-content-end-2
slice_bounds-content-end-2 c = sym (length-take-le _ _ (omega arith))

pub slice_bounds-content-end-3 : goal.slice_bounds-content-end-3
slice_bounds-content-end-3 c = sym (length-take-le _ _ (omega arith))

pub slice_bounds-content-end-4 : goal.slice_bounds-content-end-4
slice_bounds-content-end-4 c = sym (length-take-le _ _ (omega arith))

pub put_written-requires : goal.put_written-requires
put_written-requires c = (omega arith, omega arith, λ end e. omega (arith, written_within _ _ _ _ (sym c.write_section-written.ensures.value ∙ e)))

pub returns : goal.returns
returns c =
    let l = c.args.content in
    let text =
    back_made c.args.r l.quads.now l.units.now l.lines.now l.frames.now l.label.now (replicate 32768 0)
    c.quads_filled-q.ensures.0 c.units_filled-u.ensures.0 c.lines_filled-l.ensures.0 c.frames_filled-f.ensures.0
    c.write_section-written.ensures.value c.write_section-written.ensures.out_after in
    record { put = puts_named text c.put_written.ensures.put; upper_bound = c.put_written.ensures.upper_bound }
