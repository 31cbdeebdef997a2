use mathlib.Core.Path.{◌≡◌, refl}
use Prim.Native.Nat.{ℕ, ◌+◌, ◌-◌}
use native.Mathlib.Omega.{arith}
use lib.ListN.{length, take, drop, length-drop, length-replicate}
use lib.Seq.{length-take-le}
use Rattle.core_write.proofs.Puts.{put_part}
use Rattle.core_write.proofs.writer.Writer.put_zeros.Goals as goal

pub returns : goal.returns
returns c =
    let w = c.args.self.now in
    let all : length (take (w.place + c.args.n - w.place) (drop w.place w.out.now)) ≡ c.args.n =
    omega (arith, length-take-le (w.place + c.args.n - w.place) (drop w.place w.out.now), length-drop {A = ℕ}) in
    record {
      order = refl;
      same = refl;
      put = put_part _ _ _ _ _ _ _ c.requires refl (omega arith) (length-replicate c.args.n 0) (rw all at c.fill.ensures.after (λ y h. h));
    }
