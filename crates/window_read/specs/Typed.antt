-- What the types of the code guarantee of a window.
use Rattle.std.specs.Prelude.{◌^◌, ◌<◌}
use Rattle.std.specs.Int.{w16}
use Rattle.std.proofs.Common.{SFits}
use Rattle.ui2d.specs.Typed.{TypedColors}
use Rattle.window_read.specs.declared.WindowPane.{WindowPane}

pub record TypedWindow (x : WindowPane) : Type 0 where
  pub inflation_left : SFits w16 x.inflation_left
  pub inflation_right : SFits w16 x.inflation_right
  pub inflation_top : SFits w16 x.inflation_top
  pub inflation_bottom : SFits w16 x.inflation_bottom
  pub frame_size_left : SFits w16 x.frame_size_left
  pub frame_size_right : SFits w16 x.frame_size_right
  pub frame_size_top : SFits w16 x.frame_size_top
  pub frame_size_bottom : SFits w16 x.frame_size_bottom
  pub colors : TypedColors x.content.vertex_colors
  pub material : x.content.material_index < 256 ^ 2
