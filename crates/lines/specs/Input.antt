-- Lines of hexadecimal digits, taken from what is read a chunk at a time.
use Rattle.std.specs.Prelude.{ℕ, ◌+◌, Bool, cond, ◌&&◌, Some, None, is_some, List, take, drop, ltb, eqb}
use Rattle.std.specs.Option.{option_map_or}
use Rattle.digits.specs.Digits.{blank_line, has_begun, fed}
use Rattle.digits.specs.declared.Fed.{Fed}
use Rattle.digits.specs.declared.Line.{Line}
use Rattle.lines.specs.declared.input.Input.{Input}

unfoldable pub begun : Input
begun = record { line = blank_line; ended = None; at = 0; count = 0 }

-- the line l goes on, or it ends here, and a blank one goes on
unfoldable pub with_line : Line → Bool → ℕ → ℕ → Input
with_line l ends at count = record { line = cond ends blank_line l; ended = cond ends (Some l) None; at = at; count = count }

-- bytes of the chunk are left
unfoldable pub remains : Input → Bool
remains i = ltb i.at i.count

-- those up to a line feed, at which the line ends, or up to the last
unfoldable pub onward : List ℕ → Input → Input
onward chunk i =
    let f : Fed = fed (drop i.at (take i.count chunk)) i.line in
    with_line f.line (is_some f.feed) (option_map_or (λ k. i.at + k + 1) f.feed i.count) i.count

-- none is left, and n more were read: 0 where the input ends, and with it a line that has begun
unfoldable pub refilled : ℕ → Input → Input
refilled n i = with_line i.line (eqb n 0 && has_begun i.line) 0 n
