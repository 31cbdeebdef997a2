use mathlib.Core.Path.{◌≡◌, ◌∙◌}
use Rattle.core_write.proofs.Texts.{puts_named}
use Rattle.lines.specs.Decimal.{decimal}
use Rattle.lines.proofs.Decimals.{fewest_decimal, fewest_few}
use native.Mathlib.Omega.{arith}
use Rattle.lines.proofs.put_decimal.Goals as goal

-- twenty digits hold a number of 64 bits
pub put_bytes-requires : goal.put_bytes-requires
put_bytes-requires c =
    let few = fewest_few _ c.decimal-k.result c.decimal-k.ensures.len (omega arith) in
    omega (arith, few)

pub returns : goal.returns
returns c =
    let d = c.decimal-k.ensures in
    let few = fewest_few _ c.decimal-k.result d.len (omega arith) in
    let e : _ ≡ decimal _ = d.digits ∙ fewest_decimal _ _ d.len in
    record { put = puts_named e c.put_bytes.ensures; upper_bound = omega (arith, few, c.put_bytes.ensures.put.place) }
