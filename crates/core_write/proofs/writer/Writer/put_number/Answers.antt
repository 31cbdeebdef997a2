use mathlib.Core.Path.{refl}
use native.Mathlib.Omega.{arith}
use Rattle.core_read.proofs.Numbers.{length_bytes}
use Rattle.core_write.proofs.Puts.{put_part}
use Rattle.core_write.proofs.writer.Writer.put_number.Goals as goal

pub returns : goal.returns
returns g c = record {
  order = refl;
  same = refl;
  put = put_part _ _ _ _ _ _ _ c.requires (omega (arith, c.WIDTH.ensures)) (omega (arith, c.WIDTH.ensures)) (length_bytes _ _ _) c.to_bytes.ensures;
}
