use mathlib.Core.Path.{◌≡◌, sym, ap, ◌∙◌}
use mathlib.Core.List.{List}
use Prim.Native.Nat.{ℕ, ◌+◌, ◌-◌, ◌≤◌, ◌<◌}
use lib.ListN.{length, take, drop, length-drop}
use lib.Seq.{length-take-le}
use native.Mathlib.Omega.{arith}
use Rattle.std.proofs.lemmas.List.{drop-take}
use Rattle.digits.specs.Digits.{fed}
use Rattle.digits.specs.declared.Fed.{Fed}
use Rattle.digits.proofs.Feeds.{fed_within}
use Rattle.std.specs.Prelude.{Some}
use Rattle.lines.specs.Input.{onward}
use Rattle.lines.specs.declared.input.Input.{Input}
use Rattle.lines.proofs.input.onward_in.Goals as goal

-- what is left of the chunk
rest_of : (a n : ℕ) (s : List ℕ) → a < n → take (n - a) (drop a s) ≡ drop a (take n s)
rest_of a n s h =
    let e : a + (n - a) ≡ n = omega arith in
    sym (drop-take a (n - a) s) ∙ ap (λ (k : ℕ). drop a (take k s)) e

fed_rest : (i : Input) (s : List ℕ) (f : Fed) → i.at < i.count → f ≡ fed (take (i.count - i.at) (drop i.at s)) i.line → f ≡ fed (drop i.at (take i.count s)) i.line
fed_rest i s f h e = e ∙ ap (λ (t : List ℕ). fed t i.line) (rest_of i.at i.count s h)

-- a line feed in it is a place of the chunk
within : (i : Input) (s : List ℕ) (f : Fed) (k : ℕ) → i.at < i.count → i.count ≤ length s → f ≡ fed (take (i.count - i.at) (drop i.at s)) i.line → f.feed ≡ Some k → i.at + k < i.count
within i s f k h r e is =
    let long = length-take-le (i.count - i.at) (drop i.at s) (omega (arith, length-drop i.at s)) in
    let there = fed_within (take (i.count - i.at) (drop i.at s)) i.line k (sym (ap (λ (x : Fed). x.feed) e) ∙ is) in
    omega (arith, there, long)

pub overflow_add-input : goal.overflow_add-input
overflow_add-input c =
    let there = within c.args.input c.args.chunk.now _ c.in-Some.k c.requires.0 c.requires.1 c.feed-fed.ensures.value c.in-Some.is in
    record { fits = omega (arith, there) }

pub overflow_add-input-in-Some : goal.overflow_add-input-in-Some
overflow_add-input-in-Some c =
    let there = within c.args.input c.args.chunk.now _ c.in-Some.k c.requires.0 c.requires.1 c.feed-fed.ensures.value c.in-Some.is in
    record { fits = omega (arith, there) }

pub returns-in-Some : goal.returns-in-Some
unfolding onward
returns-in-Some c =
    let rest = rest_of c.args.input.at c.args.input.count c.args.chunk.now c.requires.0 in
    let read = fed_rest c.args.input c.args.chunk.now _ c.requires.0 c.feed-fed.ensures.value in
    record { value = rw (← read, c.in-Some.is) c.with_line.ensures; bytes_after = rw (← rest) c.feed-fed.ensures.bytes_after }

pub returns-in-None : goal.returns-in-None
unfolding onward
returns-in-None c =
    let rest = rest_of c.args.input.at c.args.input.count c.args.chunk.now c.requires.0 in
    let read = fed_rest c.args.input c.args.chunk.now _ c.requires.0 c.feed-fed.ensures.value in
    record { value = rw (← read, c.in-None.is) c.with_line-in-None.ensures; bytes_after = rw (← rest) c.feed-fed.ensures.bytes_after }
