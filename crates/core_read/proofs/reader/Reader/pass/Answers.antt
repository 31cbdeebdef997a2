use mathlib.Core.Path.{refl, sym}
use native.Mathlib.Omega.{arith}
use Rattle.core_read.proofs.Lists.{measured, measured_none, measured_short, measured_beyond, fits, whole_fits, whole_lacks}
use Rattle.core_read.proofs.reader.Reader.pass.Goals as goal

pub returns-then-n-eq0 : goal.returns-then-n-eq0
returns-then-n-eq0 g c = (refl, sym (measured_none _ _ _ _ _ _ refl c.if-n-eq0.true))

pub returns-then-length-from : goal.returns-then-length-from
returns-then-length-from g c =
    rw (c.run_out.ensures, c.WIDTH-width.ensures) (sym (measured_beyond _ _ _ _ _ _ _ refl (omega arith) refl (omega (arith, g.T.Number.some_bytes))))

pub nonzero_div-whole : goal.nonzero_div-whole
nonzero_div-whole g c = rw c.WIDTH-width.ensures g.T.Number.some_bytes

pub returns-then-n-whole : goal.returns-then-n-whole
returns-then-n-whole g c = (
  refl,
  rw (c.advanced-self.ensures, c.WIDTH-width.ensures) (sym (measured _ _ _ _ _ _ _ refl refl
      (fits _ _ _ g.T.Number.some_bytes c.if-length-from.false _ (rw (← c.WIDTH-width.ensures) c.if-n-whole.true)))),
)

pub returns : goal.returns
returns g c =
    rw (c.run_out-2.ensures, c.WIDTH-width.ensures) (sym (measured_short _ _ _ _ _ _ _ _ refl
    (rw (← c.WIDTH-width.ensures) c.if-n-whole.false) refl (whole_fits _ _ _ g.T.Number.some_bytes c.if-length-from.false) (whole_lacks _ _ _ g.T.Number.some_bytes c.if-length-from.false)))
