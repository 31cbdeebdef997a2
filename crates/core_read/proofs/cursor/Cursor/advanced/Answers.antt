use native.Mathlib.Omega.{arith}
use Rattle.core_read.proofs.Cursors.{advanced_none, advanced_to}
use Rattle.core_read.proofs.cursor.Cursor.advanced.Goals as goal

pub returns-then-width-eq0 : goal.returns-then-width-eq0
returns-then-width-eq0 c = advanced_none _ _ c.if-width-eq0.true

pub returns-then-reach-pos : goal.returns-then-reach-pos
returns-then-reach-pos c = advanced_to _ _ c.if-width-eq0.false _ (omega arith)

pub returns : goal.returns
returns c = advanced_to _ _ c.if-width-eq0.false _ (omega arith)
