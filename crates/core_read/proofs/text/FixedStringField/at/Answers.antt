use Prim.Native.Nat.{◌+◌, ◌≤◌, ◌<◌}
use lib.ListN.{length}
use Rattle.core_read.proofs.Here.{fixed_string_here, part_to}
use Rattle.core_read.proofs.text.FixedStringField.at.Goals as goal

pub returns : goal.returns
returns g c = record {
  here = λ k e.
      let there : k.pos < length c.args.source.«data».now = rw e c.requires.0 in
      let room : k.pos + g.row.N ≤ length c.args.source.«data».now = rw e c.requires.1 in
      rw (c.fill_string-count.ensures.value, c.fill_string-count.ensures.out_after, part_to, ← e) (fixed_string_here g.row.N c.args.source.«data».now k there room);
}
