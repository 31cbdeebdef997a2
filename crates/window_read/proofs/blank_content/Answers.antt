use Rattle.window_read.specs.Window.{blank_window}
use Rattle.window_read.proofs.blank_content.Goals as goal

pub returns : goal.returns
unfolding blank_window
returns c = rw c.zero_color-black.ensures
