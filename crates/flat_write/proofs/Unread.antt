-- What a write does not read of a record: counts, label place and label length.
use mathlib.Core.Path.{◌≡◌, refl}
use Prim.Native.Nat.{ℕ}
use mathlib.Core.Bool.{Bool}
use mathlib.Core.List.{List}
use lib.ListN.{length}
use Rattle.core_read.specs.declared.cursor.ByteOrder.{ByteOrder}
use Rattle.picture.specs.Body.{picture_write_checked, picture_written, picture_output, body_length as pictureBodyLength, encode_body as encodePictureBody}
use Rattle.picture_fields.specs.Picture.{picture_length, encode_picture}
use Rattle.text_box.specs.Body.{text_box_write_checked, text_box_written, text_box_output, encode_body as encodeTextBoxBody}
use Rattle.text_box_checks.specs.Checks.{bit_bad, text_box_checked}
use Rattle.text_box_parts.specs.Parts.{label_part, line_part, Label, LineTable}
use Rattle.text_box_read.specs.declared.TextBoxPane.{TextBoxPane}
use Rattle.text_box_write.specs.Fixed.{encode_indices, encode_style, encode_font, encode_shadow, encode_fixed}
use Rattle.text_box_write.specs.Written.{encode_text_box, text_box_length}
use Rattle.window.specs.Body.{window_output, encode_body as encodeWindowBody}
use Rattle.window_write.specs.Write.{encode_borders, encode_head, encode_content, encode_window}
use Rattle.strip_records.specs.Whole.{Lists, Whole}
use Rattle.strip_records.specs.declared.kind.Kind.{Kind}
use Rattle.strip_records.specs.declared.kind.Kind.TheVariants.{Pan1, Pic1, Txt1, Wnd1, Ali1}
use Rattle.strip_records.specs.declared.record.Record.{Record}
use Rattle.strip_write.specs.Write.{body_length, encode_body, own_length_checked, own_name_checked, own_checked, section, write_checked, write_answer, write_output}
use Rattle.flat_records.proofs.AlikeRecords.{plain_label, plain_lines, plain_text_box, plain}
use Rattle.flat_write.specs.Bodies.{body_answer, body_output}
use Rattle.core_read.specs.Taken.{Place}
use Rattle.std.specs.Prelude.{None, Some}

-- ---- a text box

label_unread : (x : Label) (bytes : List ℕ) → label_part (plain_label x) bytes ≡ label_part x bytes
label_unread None bytes = refl
label_unread (Some span) bytes = refl

lines_unread : (x : LineTable) (l : List ℕ) → line_part (plain_lines x) l ≡ line_part x l
lines_unread None l = refl
lines_unread (Some count) l = refl

bit_unread : (x : LineTable) (line : Bool) → bit_bad (plain_lines x) line ≡ bit_bad x line
unfolding bit_bad
bit_unread None line = refl
bit_unread (Some count) line = refl

module _ (x : TextBoxPane) (units l name : List ℕ) where
  length_unread : (body : ℕ) → text_box_length body (plain_text_box x) units l name ≡ text_box_length body x units l name
  unfolding text_box_length
  length_unread body = rw (label_unread x.label name, lines_unread x.line_table l)

  bytes_unread : (order : ByteOrder) (body : ℕ) → encode_text_box order body (plain_text_box x) units l name ≡ encode_text_box order body x units l name
  unfolding encode_text_box encode_fixed encode_indices encode_style encode_font encode_shadow
  bytes_unread order body = rw (label_unread x.label name, lines_unread x.line_table l)

  checks_unread : (p : Place) → text_box_checked p (plain_text_box x) units l ≡ text_box_checked p x units l
  unfolding text_box_checked
  checks_unread p = rw (lines_unread x.line_table l, bit_unread x.line_table x.text_flags.is_line_transform)

-- ---- a section, by kind

abbrev pub of : Record → Lists → List ℕ → Whole
of r l name = record { pane = r; lists = l; label = name }

module _ (r : Record) (l : Lists) (name : List ℕ) where
  label_length_unread : (k : Kind) (p : Place) → own_length_checked k p (plain r) name ≡ own_length_checked k p r name
  unfolding own_length_checked
  label_length_unread Pan1 p = refl
  label_length_unread Pic1 p = refl
  label_length_unread Txt1 p = rw (label_unread r.text_box.label name)
  label_length_unread Wnd1 p = refl
  label_length_unread Ali1 p = refl

  label_name_unread : (k : Kind) (p : Place) → own_name_checked k p (plain r) name ≡ own_name_checked k p r name
  unfolding own_name_checked
  label_name_unread Pan1 p = refl
  label_name_unread Pic1 p = refl
  label_name_unread Txt1 p = rw (label_unread r.text_box.label name)
  label_name_unread Wnd1 p = refl
  label_name_unread Ali1 p = refl

  own_unread : (k : Kind) (p : Place) → own_checked k p (of (plain r) l name) ≡ own_checked k p (of r l name)
  unfolding own_checked
  own_unread Pan1 p = refl
  own_unread Pic1 p = refl
  own_unread Txt1 p = checks_unread r.text_box l.units l.lines name p
  own_unread Wnd1 p = refl
  own_unread Ali1 p = refl

  long_unread : (k : Kind) (body : ℕ) → body_length k body (of (plain r) l name) ≡ body_length k body (of r l name)
  unfolding pictureBodyLength picture_length
  long_unread Pan1 body = refl
  long_unread Pic1 body = refl
  long_unread Txt1 body = rw (length_unread r.text_box l.units l.lines name body)
  long_unread Wnd1 body = refl
  long_unread Ali1 body = refl

  encode_unread : (k : Kind) (order : ByteOrder) (body : ℕ) → encode_body k order body (of (plain r) l name) ≡ encode_body k order body (of r l name)
  unfolding encode_body encodePictureBody encode_picture encodeTextBoxBody encodeWindowBody encode_window encode_head encode_borders encode_content
  encode_unread Pan1 order body = refl
  encode_unread Pic1 order body = refl
  encode_unread Txt1 order body = rw (bytes_unread r.text_box l.units l.lines name order body)
  encode_unread Wnd1 order body = refl
  encode_unread Ali1 order body = refl

  -- ---- THE LAW, of a section

  checked_unread : (n p : ℕ) → write_checked (of (plain r) l name) n p ≡ write_checked (of r l name) n p
  unfolding write_checked
  checked_unread n p = rw (label_length_unread r.kind _, label_name_unread r.kind _, own_unread r.kind _, long_unread r.kind _)

  pub section_answer : (n p : ℕ) → write_answer (of (plain r) l name) n p ≡ write_answer (of r l name) n p
  unfolding write_answer
  section_answer n p = rw (checked_unread n p, long_unread r.kind _)

  pub section_output : (order : ByteOrder) (o : List ℕ) (p : ℕ) → write_output order (of (plain r) l name) o p ≡ write_output order (of r l name) o p
  unfolding write_output section
  section_output order o p = rw (checked_unread (length o) p, long_unread r.kind _, encode_unread r.kind order _)

  -- ---- THE LAW, of a body

  pub body_answer_lem : (k : Kind) (n body : ℕ) → body_answer k (of (plain r) l name) n body ≡ body_answer k (of r l name) n body
  unfolding body_answer picture_written picture_write_checked pictureBodyLength picture_length text_box_written text_box_write_checked
  body_answer_lem Pan1 n body = refl
  body_answer_lem Pic1 n body = refl
  body_answer_lem Txt1 n body =
      rw (label_unread r.text_box.label name, checks_unread r.text_box l.units l.lines name _, length_unread r.text_box l.units l.lines name body)
  body_answer_lem Wnd1 n body = refl
  body_answer_lem Ali1 n body = refl

  pub body_output_lem : (order : ByteOrder) (k : Kind) (o : List ℕ) (body : ℕ) → body_output order k (of (plain r) l name) o body ≡ body_output order k (of r l name) o body
  unfolding body_output picture_output picture_write_checked pictureBodyLength picture_length encodePictureBody encode_picture text_box_output text_box_write_checked encodeTextBoxBody window_output encodeWindowBody encode_window encode_head encode_borders encode_content
  body_output_lem order Pan1 o body = refl
  body_output_lem order Pic1 o body = refl
  body_output_lem order Txt1 o body =
      rw (label_unread r.text_box.label name, checks_unread r.text_box l.units l.lines name _, length_unread r.text_box l.units l.lines name body, bytes_unread r.text_box l.units l.lines name order body)
  body_output_lem order Wnd1 o body = refl
  body_output_lem order Ali1 o body = refl
