use mathlib.Core.Path.{refl, ap, sym, ◌∙◌}
use borrow.Author.Rules.{rules}
use Rattle.core_read.specs.Bytes.{bytes_of}
use Rattle.core_write.proofs.Chain.{◌then◌, puts_as}
use Rattle.alignment_fields.specs.Alignment.{encode_alignment}
use Rattle.alignment_fields.proofs.Bools.{byte_from}
use Rattle.alignment_fields.proofs.put_alignment.Goals as goal

-- what the writer of its own put is what stands behind the lent one, since the reference is the same
pub returns : goal.returns
unfolding encode_alignment
returns c =
    let h = c.put_number.ensures
    then c.put_number-2.ensures
    then puts_as refl (λ order. ap (bytes_of order 1) (c.from.ensures ∙ byte_from _)) c.put_number-3.ensures
    then puts_as refl (λ order. ap (bytes_of order 1) (c.from-2.ensures ∙ byte_from _)) c.put_number-4.ensures
    then c.put_number-5.ensures in
    search (rules, h.put, sym h.same)
