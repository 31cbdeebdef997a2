-- What the types of the code guarantee: each float has 32 bits, each channel is a byte, the colours are four.
use Rattle.std.specs.Prelude.{◌≡◌, ℕ, ◌^◌, ◌<◌, List, length, get_or}
use Rattle.ui2d.specs.declared.Vector2f.{Vector2f}
use Rattle.ui2d.specs.declared.Vector3f.{Vector3f}
use Rattle.ui2d.specs.declared.Color4u8.{Color4u8}

pub record TypedVector2 (v : Vector2f) : Type 0 where
  pub x : v.x.bits < 256 ^ 4
  pub y : v.y.bits < 256 ^ 4

pub record TypedVector3 (v : Vector3f) : Type 0 where
  pub x : v.x.bits < 256 ^ 4
  pub y : v.y.bits < 256 ^ 4
  pub z : v.z.bits < 256 ^ 4

pub record TypedColor (v : Color4u8) : Type 0 where
  pub r : v.r < 256
  pub g : v.g < 256
  pub b : v.b < 256
  pub a : v.a < 256

-- the colour of a corner
abbrev pub color_at : List Color4u8 → ℕ → Color4u8
color_at vs i = get_or vs i (record { r = 0; g = 0; b = 0; a = 0 })

pub record TypedColors (vs : List Color4u8) : Type 0 where
  pub four : length vs ≡ 4
  pub top_left : TypedColor (color_at vs 0)
  pub top_right : TypedColor (color_at vs 1)
  pub bottom_left : TypedColor (color_at vs 2)
  pub bottom_right : TypedColor (color_at vs 3)
