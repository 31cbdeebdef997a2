-- When two windows with their quads and frames are equal: every field but the counts, and the lists whole.
use Rattle.std.specs.Prelude.{◌≡◌, ℕ, List}
use Rattle.window_read.specs.declared.WindowPane.{WindowPane}

pub record SameWindow (a : WindowPane) (q f : List ℕ) (b : WindowPane) (q' f' : List ℕ) : Type 0 where
  pub inflation_left : a.inflation_left ≡ b.inflation_left
  pub inflation_right : a.inflation_right ≡ b.inflation_right
  pub inflation_top : a.inflation_top ≡ b.inflation_top
  pub inflation_bottom : a.inflation_bottom ≡ b.inflation_bottom
  pub frame_size_left : a.frame_size_left ≡ b.frame_size_left
  pub frame_size_right : a.frame_size_right ≡ b.frame_size_right
  pub frame_size_top : a.frame_size_top ≡ b.frame_size_top
  pub frame_size_bottom : a.frame_size_bottom ≡ b.frame_size_bottom
  pub flag : a.flag ≡ b.flag
  pub colors : a.content.vertex_colors ≡ b.content.vertex_colors
  pub material : a.content.material_index ≡ b.content.material_index
  pub quads : q ≡ q'
  pub frames : f ≡ f'
