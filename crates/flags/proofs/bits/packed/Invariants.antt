use Rattle.std.proofs.Common.{◌≡◌, map, reverse}
use Rattle.flags.specs.Packed.{flag, pack}
use Rattle.flags.proofs.bits.packed.Given as goal

-- the flags so far, from the last on
abbrev pub invariant-loop-flag : goal.invariant-loop-flag
invariant-loop-flag l = l.n ≡ pack (map flag (reverse (map (λ b. b.now) l.yielded)))
