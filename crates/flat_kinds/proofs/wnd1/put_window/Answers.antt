use Rattle.flat_kinds.specs.Own.{window_words}
use mathlib.Core.Path.{refl}
use Rattle.flat.proofs.Storing.{next}
use Rattle.flat_kinds.proofs.Sides.{sides_passed}
use Rattle.flat_kinds.proofs.wnd1.put_window.Goals as goal

pub returns : goal.returns
unfolding window_words
returns c = record {
  same = refl;
  stored = next refl (sides_passed (record { sfits = c.struct_told-1.given.0.1 }) (record { sfits = c.struct_told-1.given.1.0.1 }) (record { sfits = c.struct_told-1.given.1.1.0.1 }) (record { sfits = c.struct_told-1.given.1.1.1.0.1 }) c.put_sides.ensures)
      (next refl (sides_passed (record { sfits = c.struct_told-1.given.1.1.1.1.0.1 }) (record { sfits = c.struct_told-1.given.1.1.1.1.1.0.1 }) (record { sfits = c.struct_told-1.given.1.1.1.1.1.1.0.1 }) (record { sfits = c.struct_told-1.given.1.1.1.1.1.1.1.0.1 }) c.put_sides-2.ensures) (next refl c.put_flag.ensures c.put_content.ensures));
}
