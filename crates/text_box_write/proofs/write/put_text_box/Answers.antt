use mathlib.Core.Path.{◌∙◌}
use Rattle.text_box_write.proofs.Parted.{need_fixed, need_text, need_label, need_lines, whole_puts}
use Rattle.text_box_write.proofs.write.put_text_box.Goals as goal

pub put_fixed-requires : goal.put_fixed-requires
put_fixed-requires c = let h = c.requires in need_fixed _ _ _ _ _ _ _ h.0 h.2 h.4

pub put_text-requires : goal.put_text-requires
put_text-requires c = let h = c.requires in need_text _ _ _ _ _ _ _ h.0 h.2 h.4 _ _ c.put_fixed.ensures.put.long c.put_fixed.ensures.put.place

pub put_label-requires : goal.put_label-requires
put_label-requires c = let h = c.requires in need_label _ _ _ _ _ _ _ h.0 h.2 h.4 _ _ _ (c.put_text.ensures.put.long ∙ c.put_fixed.ensures.put.long) c.put_fixed.ensures.put.place c.put_text.ensures.put.place

pub put_lines-requires : goal.put_lines-requires
put_lines-requires c = let h = c.requires in (h.3.table, need_lines _ _ _ _ _ _ _ h.0 h.2 h.4 _ _ _ _ (c.put_label.ensures.put.long ∙ c.put_text.ensures.put.long ∙ c.put_fixed.ensures.put.long) c.put_fixed.ensures.put.place c.put_text.ensures.put.place c.put_label.ensures.put.place)

pub returns : goal.returns
returns c = let h = c.requires in whole_puts _ _ _ _ _ _ h.0 h.2 c.lay_out-plan.ensures.0 c.put_fixed.ensures c.put_text.ensures c.put_label.ensures c.put_lines.ensures
