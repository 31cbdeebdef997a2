-- THE LAW: a write reads no counts, no label place and no label length. Words that are the same elsewhere are written alike.
use mathlib.Core.Path.{◌≡◌, refl, sym, ap, ◌∙◌}
use Prim.Native.Nat.{ℕ}
use mathlib.Core.List.{List}
use lib.ListN.{length}
use Rattle.core_read.specs.declared.cursor.ByteOrder.{ByteOrder}
use Rattle.strip_records.specs.Whole.{Lists}
use Rattle.strip_records.specs.declared.record.Record.{Record}
use Rattle.strip_write.specs.Write.{write_answer, write_output}
use Rattle.flat_records.specs.Records.{record_of}
use Rattle.flat_records.specs.Unread.{SameRead}
use Rattle.flat_records.proofs.Alike.{checked_alike}
use Rattle.flat_records.proofs.AlikeRecords.{plain, plain_alike}
use Rattle.flat_write.specs.Bodies.{body_answer, body_output}
use Rattle.flat_write.proofs.Unread.{of, section_answer, section_output, body_answer_lem, body_output_lem}
use Rattle.exports_answers.specs.Answers.{unless_other, bad_order, order_of}
use Rattle.exports_answers.specs.declared.answers.Answer.{Answer}
use Rattle.std.proofs.Common.{Option, Some, None}
use Rattle.exports_parts.specs.Parts.{of_record}
use Rattle.exports.specs.Calls.{WriteOutcome, write_outcome, section_written, body_written}

-- what does not tell a record from its plain one does not tell w from v
through : {A : Type 0} (f : Record → A) (w v : List ℕ) → ((r : Record) → f (plain r) ≡ f r) → SameRead w v → f (record_of w) ≡ f (record_of v)
through f w v h g = sym (h (record_of w)) ∙ ap f (plain_alike w v g) ∙ h (record_of v)

found_alike : {A : Type 0} (x : Option ByteOrder) (bad : A) (f h : ByteOrder → A) → ((order : ByteOrder) → f order ≡ h order) → unless_other x bad f ≡ unless_other x bad h
found_alike (Some order) bad f h e = e order
found_alike None bad f h e = refl

tested_alike : (w v : List ℕ) (bad : Answer → WriteOutcome) (x y : WriteOutcome) → SameRead w v → x ≡ y → of_record w bad x ≡ of_record v bad y
unfolding of_record
tested_alike w v bad x y g e = rw (g.long, checked_alike w v g, e)

module _ (n : ℕ) (w v : List ℕ) (l : Lists) (name o : List ℕ) (p : ℕ) (g : SameRead w v) where
  pub section_unread : section_written n w l name o p ≡ section_written n v l name o p
  unfolding section_written
  section_unread =
      let a = through (λ (r : Record). write_answer (of r l name) (length o) p) w v (λ r. section_answer r l name (length o) p) g in
      let b : (order : ByteOrder) → write_output order (of (record_of w) l name) o p ≡ write_output order (of (record_of v) l name) o p =
      λ order. through (λ (r : Record). write_output order (of r l name) o p) w v (λ r. section_output r l name order o p) g in
      found_alike (order_of n) (write_outcome (bad_order n) o) _ _ (λ order. tested_alike w v (λ x. write_outcome x o) _ _ g (rw (a, b order)))

  pub body_unread : body_written n w l name o p ≡ body_written n v l name o p
  unfolding body_written
  body_unread =
      let a = through (λ (r : Record). body_answer r.kind (of r l name) (length o) p) w v (λ r. body_answer_lem r l name r.kind (length o) p) g in
      let b : (order : ByteOrder) → body_output order (record_of w).kind (of (record_of w) l name) o p ≡ body_output order (record_of v).kind (of (record_of v) l name) o p =
      λ order. through (λ (r : Record). body_output order r.kind (of r l name) o p) w v (λ r. body_output_lem r l name order r.kind o p) g in
      found_alike (order_of n) (write_outcome (bad_order n) o) _ _ (λ order. tested_alike w v (λ x. write_outcome x o) _ _ g (rw (a, b order)))
