use Rattle.core_write.proofs.Chain.{◌then◌}
use Rattle.window.specs.Body.{body_length, encode_body}
use native.Mathlib.Omega.{arith}
use Rattle.window.proofs.body.put_body.Goals as goal

pub put_pane-requires : goal.put_pane-requires
unfolding body_length
put_pane-requires c = (c.requires.sound.0, omega (arith, c.requires.room))

pub put_window-requires : goal.put_window-requires
unfolding body_length
put_window-requires c = record { body_bound = (c.requires.sound.2, c.requires.sound.1); room = omega (arith, c.put_pane.ensures.put.place, c.put_pane.ensures.put.long, c.requires.room) }

pub returns : goal.returns
unfolding body_length encode_body
returns c = c.put_pane.ensures then c.put_window.ensures
