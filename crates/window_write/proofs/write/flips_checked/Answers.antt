use mathlib.Core.Path.{sym, ◌∙◌}
use native.Mathlib.Omega.{arith}
use Rattle.window_write.proofs.Puts.{flips_none, flips_next, flips_found}
use Rattle.window_write.proofs.write.flips_checked.Goals as goal

pub returns-then-flip-gt5 : goal.returns-then-flip-gt5
returns-then-flip-gt5 c = λ d.
    sym (c.loop-frame.invariant d) ∙ flips_found d c.args.frames.now _ _ c.as_chunks.ensures.front (omega (arith, c.as_chunks.ensures.front_len)) c.if-flip-gt5.true

pub loop-frame-preserved : goal.loop-frame-preserved
loop-frame-preserved c = λ d.
    sym (flips_next d c.args.frames.now _ _ c.as_chunks.ensures.front (omega (arith, c.as_chunks.ensures.front_len)) c.if-flip-gt5.false) ∙ c.loop-frame.invariant d

pub returns : goal.returns
returns c = λ d. sym (c.loop-frame.invariant d) ∙ flips_none _ _ c.args.frames.now (omega (arith, c.as_chunks.ensures.front_len))
