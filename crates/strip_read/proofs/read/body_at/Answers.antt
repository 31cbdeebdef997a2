use mathlib.Core.Path.{◌≡◌}
use native.Mathlib.Omega.{arith}
use borrow.Author.Rules.{rules}
use Rattle.strip_read.proofs.Steps.{took_size}
use Rattle.std.specs.Prelude.{Ok}
use Rattle.strip_read.proofs.read.body_at.Goals as goal

pub overflow_add-next : goal.overflow_add-next
overflow_add-next c =
    let k : c.args.checked ≡ Ok c.in_ok-map_err.field-0 = search rules in
    let h : c.take_header.result ≡ Ok c.in_ok-header.header = search rules in
    let a = c.requires _ k in
    let source = c.reader-r.ensures.0 in
    let fits = rw source at (took_size _ _ _ _ _ c.take_header.ensures h (rw source a.0)) in
    omega (arith, fits, a.1)
