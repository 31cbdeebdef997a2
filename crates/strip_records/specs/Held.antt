-- The lists that a read is lent and those that a write is handed, as the definitions take them.
use Rattle.std.specs.Prelude.{◌≡◌, length}
use Rattle.strip_records.specs.Whole.{Lists, lists, Whole, whole}
use Rattle.strip_records.specs.declared.lists.Content.{Content}
use Rattle.strip_records.specs.declared.lists.Lists.{Lists as Lent}
use Rattle.strip_records.specs.declared.record.Record.{Record}

-- what stands in the lists that are lent
abbrev pub held : Lent → Lists
held l = lists l.quads.now l.units.now l.lines.now l.frames.now

-- the same four lists are lent, as long as they were, and l stands in them after
pub record Filled (old new : Lent) (l : Lists) : Type 0 where
  pub quads : new.quads.ghost_name ≡ old.quads.ghost_name
  pub units : new.units.ghost_name ≡ old.units.ghost_name
  pub lines : new.lines.ghost_name ≡ old.lines.ghost_name
  pub frames : new.frames.ghost_name ≡ old.frames.ghost_name
  pub quads_long : length new.quads.now ≡ length old.quads.now
  pub units_long : length new.units.now ≡ length old.units.now
  pub lines_long : length new.lines.now ≡ length old.lines.now
  pub frames_long : length new.frames.now ≡ length old.frames.now
  pub filled : held new ≡ l

-- a record with the lists and the label that a write of it is handed
abbrev pub handed : Record → Content → Whole
handed r c = whole r c.quads.now c.units.now c.lines.now c.frames.now c.label.now
