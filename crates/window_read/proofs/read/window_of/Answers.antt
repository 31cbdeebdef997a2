use Rattle.window_read.specs.Window.{window_of}
use borrow.Author.Rules.{rules}
use Rattle.window_read.proofs.read.window_of.Goals as goal

pub returns : goal.returns
unfolding window_of
returns c = search rules
