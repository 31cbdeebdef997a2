use mathlib.Core.Path.{sym, ◌∙◌}
use Rattle.pane_checks.specs.Checks.{name_ill}
use Rattle.utf8.proofs.Ascii.{ascii_formed}
use Rattle.pane_checks.proofs.checks.name_ill.Goals as goal

pub returns-then-is_ascii : goal.returns-then-is_ascii
unfolding name_ill
returns-then-is_ascii c =
    let a = c.args in
    rw (ascii_formed a.count a.bytes.now (sym c.is_ascii.ensures ∙ c.if-is_ascii.true))

pub returns : goal.returns
unfolding name_ill
returns c = rw (c.well_formed-formed.ensures, c.text_of-text.ensures)
