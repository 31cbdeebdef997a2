use mathlib.Core.Path.{refl}
use native.Mathlib.Omega.{arith}
use Rattle.core_write.proofs.Puts.{put_part}
use Rattle.core_write.proofs.writer.Writer.put_bytes.Goals as goal

pub returns : goal.returns
returns c = record {
  order = refl;
  same = refl;
  put = put_part _ _ _ _ _ _ _ c.requires refl (omega arith) refl c.copy_bytes.ensures;
}
