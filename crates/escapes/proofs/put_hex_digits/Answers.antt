use Rattle.escapes.proofs.put_hex_digits.Goals as goal

pub returns : goal.returns
returns c = rw (← c.hex_digit-high.ensures, ← c.hex_digit-low.ensures) c.put_bytes.ensures
