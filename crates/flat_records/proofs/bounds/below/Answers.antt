use Rattle.std.proofs.Common.{◌≡◌, ◌+◌, ◌-◌, sym, ap, ◌∙◌, arith}
use Rattle.flat_records.proofs.Scanning.{told, found}
use Rattle.flat_records.proofs.bounds.below.Goals as goal

pub returns-in-Some : goal.returns-in-Some
returns-in-Some c =
    let e : c.args.from + c.args.count - c.args.from ≡ c.args.count = omega arith in
    ap (told c.args.from) (sym c.in-Some.is) ∙ found _ _ _ _ _ c.requires (rw e at c.first_not_below.ensures)

pub returns-in-None : goal.returns-in-None
returns-in-None c =
    let e : c.args.from + c.args.count - c.args.from ≡ c.args.count = omega arith in
    ap (told c.args.from) (sym c.in-None.is) ∙ found _ _ _ _ _ c.requires (rw e at c.first_not_below.ensures)
