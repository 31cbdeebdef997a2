use borrow.Author.Tests.{lt-ltb, le-ltb}
use lib.Ieee.Bits.{nan_bits_above}
use Rattle.floats.proofs.FloatValueFromBinary32.from.Goals as goal

pub float_from_bits-result : goal.float_from_bits-result
float_from_bits-result c = simp (nan_bits_above, le-ltb _ _ c.if-bits-gt2139095040.false) tt

pub returns-then-bits-gt2139095040 : goal.returns-then-bits-gt2139095040
returns-then-bits-gt2139095040 c = simp (nan_bits_above, lt-ltb _ _ c.if-bits-gt2139095040.true)

pub returns-else-bits-gt2139095040 : goal.returns-else-bits-gt2139095040
returns-else-bits-gt2139095040 c = simp (nan_bits_above, le-ltb _ _ c.if-bits-gt2139095040.false)
