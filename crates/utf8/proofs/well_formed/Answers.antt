use Prim.Native.Nat.{ℕ, ◌-◌, ◌<◌}
use mathlib.Core.Path.{◌≡◌, sym, ap, ◌∙◌}
use mathlib.Core.List.{List}
use native.Mathlib.Omega.{arith}
use borrow.Author.Rules.{rules}
use borrow.Author.Tests.{tests}
use lib.ListN.{length, take, drop, length-drop}
use Rattle.std.proofs.lemmas.List.{take_all}
use Rattle.utf8.specs.Utf8.{ascii_run}
use Rattle.utf8.proofs.Rows.{sequence_some}
use Rattle.utf8.proofs.Walk.{walked_none, walked_ascii, walked_more, walked_stuck, walked_all}
use Rattle.utf8.proofs.well_formed.Goals as goal

-- all that follows n elements
rest_of : (n : ℕ) (l : List ℕ) → take (length l - n) (drop n l) ≡ drop n l
rest_of n l = take_all (length l - n) (drop n l) (omega (arith, length-drop n l))

pub loop-left-init : goal.loop-left-init
loop-left-init c = walked_ascii _ _ _ (walked_none _) c.after_ascii-left.ensures

pub returns-in_default : goal.returns-in_default
returns-in_default c =
    let some : 0 < length c.loop-left.left.now = search (rules, tests) in
    walked_stuck _ _ c.loop-left.invariant some (sym c.sequence.ensures ∙ c.in_default.is)

pub slice_bounds-after_ascii-count : goal.slice_bounds-after_ascii-count
slice_bounds-after_ascii-count c = (sequence_some _ _ (sym c.sequence.ensures ∙ c.in-Some.is)).1

pub slice_bounds-after_ascii-start : goal.slice_bounds-after_ascii-start
slice_bounds-after_ascii-start c =
    let h = sequence_some c.loop-left.left.now c.in-Some.n (sym c.sequence.ensures ∙ c.in-Some.is) in
    search rules

pub loop-left-smaller : goal.loop-left-smaller
loop-left-smaller c =
    let left = c.loop-left.left.now in
    let n = c.in-Some.n in
    let h = sequence_some left n (sym c.sequence.ensures ∙ c.in-Some.is) in
    let part = take (length left - n) (drop n left) in
    omega (arith, h, ap length c.after_ascii-left-in-loop-left.ensures, length-drop (ascii_run part) part, ap length (rest_of n left), length-drop n left)

pub loop-left-preserved : goal.loop-left-preserved
loop-left-preserved c =
    walked_ascii _ _ _ (walked_more _ _ _ c.loop-left.invariant c.in-Some.n (sym c.sequence.ensures ∙ c.in-Some.is) (rest_of c.in-Some.n c.loop-left.left.now)) c.after_ascii-left-in-loop-left.ensures

pub returns : goal.returns
returns c =
    let none : length c.loop-left.left.now ≡ 0 = search (rules, tests) in
    walked_all _ _ c.loop-left.invariant none
