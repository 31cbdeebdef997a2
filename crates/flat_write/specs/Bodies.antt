-- The body of a record as its kind's body call writes it.
use Rattle.std.specs.Prelude.{ℕ, List}
use Rattle.core_read.specs.declared.cursor.ByteOrder.{ByteOrder}
use Rattle.pane.specs.Body.{pane_written, pane_output}
use Rattle.picture.specs.Body.{picture_written, picture_output}
use Rattle.text_box.specs.Body.{text_box_written, text_box_output}
use Rattle.window.specs.Body.{window_written, window_output}
use Rattle.alignment.specs.Body.{alignment_written, alignment_output}
use Rattle.strip_records.specs.Whole.{Whole}
use Rattle.strip_records.specs.declared.kind.Kind.{Kind}
use Rattle.strip_records.specs.declared.kind.Kind.TheVariants.{Pan1, Pic1, Txt1, Wnd1, Ali1}
use Rattle.core_checks.specs.Checks.{Written}

-- the body of a record at B, as its body call writes it
unfoldable pub body_answer : Kind → Whole → ℕ → ℕ → Written
body_answer Pan1 x n body = pane_written x.pane.base n body
body_answer Pic1 x n body = picture_written x.pane.base x.pane.picture x.lists.quads n body
body_answer Txt1 x n body = text_box_written x.pane.base x.pane.text_box x.lists.units x.lists.lines x.label n body
body_answer Wnd1 x n body = window_written x.pane.base x.lists.quads x.lists.frames n body
body_answer Ali1 x n body = alignment_written x.pane.base n body

unfoldable pub body_output : ByteOrder → Kind → Whole → List ℕ → ℕ → List ℕ
body_output order Pan1 x o body = pane_output order x.pane.base o body
body_output order Pic1 x o body = picture_output order x.pane.base x.pane.picture x.lists.quads o body
body_output order Txt1 x o body = text_box_output order x.pane.base x.pane.text_box x.lists.units x.lists.lines x.label o body
body_output order Wnd1 x o body = window_output order x.pane.base x.pane.window x.lists.quads x.lists.frames o body
body_output order Ali1 x o body = alignment_output order x.pane.base x.pane.alignment o body
