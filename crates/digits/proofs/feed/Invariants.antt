use mathlib.Core.Path.{◌≡◌}
use lib.ListN.{length}
use Rattle.digits.proofs.Feeds.{Going}
use Rattle.digits.proofs.feed.Given as goal

abbrev pub invariant-loop-i : goal.invariant-loop-i
invariant-loop-i l = (length l.bytes ≡ length l.initial.bytes) × Going l.text l.fn.line l.fn.bytes l.i l.l l.bytes
