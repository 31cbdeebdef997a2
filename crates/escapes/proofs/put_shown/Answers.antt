use Rattle.escapes.proofs.Laws.{shown_out, shown_backslash, shown_plain}
use Rattle.escapes.proofs.put_shown.Goals as goal

pub returns-then-hide-never : goal.returns-then-hide-never
returns-then-hide-never c = rw (shown_out c.args.hide c.args.b (rw c.is_control-never.ensures at c.if-hide-never.true)) c.put_written_out.ensures

pub returns-then-b : goal.returns-then-b
returns-then-b c = rw (shown_backslash c.args.hide c.args.b (rw c.is_control-never.ensures at c.if-hide-never.false) c.if-b.true) c.put_bytes.ensures

pub returns-else-b : goal.returns-else-b
returns-else-b c = rw (shown_plain c.args.hide c.args.b (rw c.is_control-never.ensures at c.if-hide-never.false) c.if-b.false) c.put_bytes-else-b.ensures
