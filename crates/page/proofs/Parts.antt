-- As many bytes as are there.
use mathlib.Core.Path.{◌≡◌}
use Prim.Native.Nat.{ℕ, ◌-◌, min}
use native.Mathlib.Omega.{arith}
use mathlib.Core.List.{List}
use lib.ListN.{length, take, drop, length-drop}
use lib.Seq.{take_all}
use Rattle.std.proofs.lemmas.List.{take_min, drop_min}
use Rattle.core_read.specs.Bytes.{part}

-- the four bytes at a place, or those of them that are there
pub letters_part : (s : List ℕ) (place from n : ℕ) → from ≡ min place (length s) → n ≡ min (length (take (length s - from) (drop from s))) 4
    → take n (take (length s - from) (drop from s)) ≡ part 4 s place
unfolding part
letters_part s place from n e f =
    let all : take (length s - from) (drop from s) ≡ drop from s = take_all (length s - from) (drop from s) (omega (arith, length-drop from s)) in
    let few = rw all at f in
    let g : n ≡ min 4 (length (drop from s)) = omega (arith, few) in
    rw (all, g, take_min 4 (drop from s), e, drop_min place s)
