-- When two base panes are equal: every field, floats by their bits, names by their counted bytes.
use Rattle.std.specs.Prelude.{◌≡◌}
use Rattle.pane_read.specs.Pane.{text24, text8}
use Rattle.pane_read.specs.declared.Pane.{Pane}

pub record SamePane (a b : Pane) : Type 0 where
  pub flags : a.pane_flags ≡ b.pane_flags
  pub position : a.position ≡ b.position
  pub alpha : a.alpha ≡ b.alpha
  pub ex : a.flag_ex ≡ b.flag_ex
  pub name : text24 a.pane_name ≡ text24 b.pane_name
  pub user : text8 a.user_name ≡ text8 b.user_name
  pub translation : a.translation ≡ b.translation
  pub rotation : a.rotation ≡ b.rotation
  pub scale : a.scale ≡ b.scale
  pub size : a.size ≡ b.size
