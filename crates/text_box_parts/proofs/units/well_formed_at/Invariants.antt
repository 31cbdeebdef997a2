use Rattle.text_box_parts.proofs.Surrogates.{Left}
use Rattle.std.specs.Slice.Iter.{chunks_exact_rest, chunks_exact_size}
use mathlib.Core.Path.{◌≡◌}
use Rattle.text_box_parts.proofs.units.well_formed_at.Given as goal

abbrev pub invariant-loop-unit : goal.invariant-loop-unit
invariant-loop-unit l = (chunks_exact_size l.unit-iterator ≡ 2) × Left l.source.order l.source.«data».now l.at l.n l.waits (chunks_exact_rest l.unit-iterator)
