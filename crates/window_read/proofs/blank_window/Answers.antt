use Rattle.window_read.specs.Window.{blank_window}
use Rattle.window_read.proofs.blank_window.Goals as goal

pub returns : goal.returns
unfolding blank_window
returns c = rw (c.from.ensures, c.blank_content-content.ensures)
