use Rattle.utf16.proofs.Rest.{rest_whole, rest_over, rest_single, rest_pair, rest_unpaired}
use borrow.Author.Rules.{rules}
use Rattle.utf16.proofs.first_unpaired.Goals as goal
use Rattle.utf16.proofs.first_unpaired.Goals.{in_default-via-then-rest-lt2, in_default-via-in-len2-up+else-high_surrogate-low_surrogate}

pub loop-rest-init : goal.loop-rest-init
loop-rest-init c = rest_whole _

pub returns-in_default : goal.returns-in_default
returns-in_default c =
    rest_unpaired _ _ c.loop-rest.invariant c.in-len1-up.len_at_least (rw (← c.high_surrogate.ensures, ← c.low_surrogate.ensures) c.if-not-high_surrogate-low_surrogate.false)
    (λ k. elim c.in_default.branch [
      | in_default-via-then-rest-lt2 w ↦ absurd (search (rules, w, k))
      | in_default-via-in-len2-up+else-high_surrogate-low_surrogate w ↦
          rw (← w.high_surrogate-in-loop-rest.ensures, ← w.low_surrogate-in-loop-rest.ensures) w.if-high_surrogate-low_surrogate.false
    ])

pub returns-in-empty : goal.returns-in-empty
returns-in-empty c = rest_over _ _ c.loop-rest.invariant c.in-empty.len_below

pub loop-rest-preserved-in-len1-up : goal.loop-rest-preserved-in-len1-up
loop-rest-preserved-in-len1-up c =
    rest_single _ _ c.loop-rest.invariant c.in-len1-up.len_at_least (rw (← c.high_surrogate.ensures, ← c.low_surrogate.ensures) c.if-not-high_surrogate-low_surrogate.true)

pub loop-rest-preserved : goal.loop-rest-preserved
loop-rest-preserved c =
    rest_pair _ _ c.loop-rest.invariant c.in-len2-up.len_at_least
    (rw (← c.high_surrogate-in-loop-rest.ensures, ← c.low_surrogate-in-loop-rest.ensures) c.if-high_surrogate-low_surrogate.true)
