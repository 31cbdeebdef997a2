use mathlib.Core.Path.{refl}
use Rattle.core_write.proofs.Chain.{◌then◌, puts_as}
use Rattle.window_write.specs.Write.{encode_frame}
use Rattle.window_write.proofs.Puts.{byte_low}
use Rattle.window_write.proofs.write.put_frame.Goals as goal

pub returns : goal.returns
unfolding encode_frame
returns c = c.put_number.ensures then puts_as refl (λ order. byte_low order _) c.put_number-2.ensures then c.put_number-3.ensures
