use Rattle.flat_kinds.proofs.Sides.{window_read}
use Rattle.flat_kinds.proofs.wnd1.window_of.Goals as goal

pub returns : goal.returns
returns c = rw c.at.ensures (window_read _ _ _ _ _ _ _ _ _ _ _ c.side_at-inflation_left.ensures c.side_at-inflation_right.ensures c.side_at-inflation_top.ensures c.side_at-inflation_bottom.ensures c.side_at-frame_size_left.ensures c.side_at-frame_size_right.ensures c.side_at-frame_size_top.ensures c.side_at-frame_size_bottom.ensures c.flag_of-flag.ensures c.content_of-content.ensures)
