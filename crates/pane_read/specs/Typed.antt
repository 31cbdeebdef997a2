-- What the types of the code guarantee of a base pane.
use Rattle.std.specs.Prelude.{◌≡◌, ◌<◌, length}
use Rattle.ui2d.specs.Typed.{TypedVector2, TypedVector3}
use Rattle.pane_read.specs.declared.Pane.{Pane}

pub record TypedPane (b : Pane) : Type 0 where
  pub alpha : b.alpha < 256
  pub reserve : b.flag_ex.reserve0 < 256
  pub name : length b.pane_name.bytes ≡ 24
  pub user : length b.user_name.bytes ≡ 8
  pub translation : TypedVector3 b.translation
  pub rotation : TypedVector3 b.rotation
  pub scale : TypedVector2 b.scale
  pub size : TypedVector2 b.size
