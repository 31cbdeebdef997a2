use mathlib.Core.Path.{refl, ap, ◌∙◌}
use Rattle.core_read.specs.Bytes.{bytes_of}
use Rattle.core_write.proofs.Puts.{◌then◌, put_as}
use Rattle.strip_write.proofs.Steps.{letters_bytes}
use Rattle.strip_write.proofs.Cleared.{size_bound}
use borrow.Author.Rules.{rules}
use native.Mathlib.Omega.{arith}
use Rattle.strip_write.proofs.write.put_header.Goals as goal

pub overflow_cast-size : goal.overflow_cast-size
overflow_cast-size c = omega (arith, c.section_size-size.ensures, size_bound c.args.n, c.requires.0)

pub returns : goal.returns
returns c =
    let letters = c.put_number.ensures in
    let size = c.put_number-2.ensures in
    record {
      order = search rules;
      same = size.same ∙ letters.same;
      put = put_as refl (ap (bytes_of _ 4) c.letters-letters.ensures ∙ letters_bytes _) letters.put
          then put_as refl (ap (bytes_of _ 4) c.section_size-size.ensures) size.put;
    }
