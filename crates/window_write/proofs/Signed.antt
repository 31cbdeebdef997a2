-- The bytes of signed numbers that the code passes on.
use mathlib.Core.Path.{◌≡◌}
use lib.IntN.{ℤ}
use mir.Syntax.{w16}
use mir.Val.{SFits}
use mir.Facts.{to_z-of_z}
use Rattle.core_read.specs.declared.cursor.ByteOrder.{ByteOrder}
use Rattle.window_head.proofs.Signed.{passed}
use Rattle.window_write.specs.Write.{encode_sides}

pub sides_passed : (order : ByteOrder) (l r t b : ℤ) → SFits w16 l → SFits w16 r → SFits w16 t → SFits w16 b
    → encode_sides order (passed l) (passed r) (passed t) (passed b) ≡ encode_sides order l r t b
sides_passed order l r t b fl fr ft fb = rw (to_z-of_z fl, to_z-of_z fr, to_z-of_z ft, to_z-of_z fb)
