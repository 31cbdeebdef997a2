use mathlib.Core.Path.{refl, sym, ap}
use native.Mathlib.Omega.{arith}
use Rattle.core_read.proofs.Strings.{label_got, label_none, label_beyond}
use Rattle.core_read.proofs.reader.Reader.label.Goals as goal

pub returns-then-count-data : goal.returns-then-count-data
returns-then-count-data c = (refl, sym (label_got _ _ _ refl _ _ c.string_length-count.ensures (omega arith) c.advanced-self.ensures))

pub returns-else-count-data : goal.returns-else-count-data
returns-else-count-data c = ap (λ t. t.then) (sym (label_none _ _ _ refl _ c.string_length-count.ensures (omega arith)))

pub returns-else-at-data : goal.returns-else-at-data
returns-else-at-data c = ap (λ t. t.then) (sym (label_beyond _ _ _ refl c.if-at-data.false))
