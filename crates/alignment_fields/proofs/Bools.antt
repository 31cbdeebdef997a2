-- The byte of a bool.
use mathlib.Core.Path.{◌≡◌, refl}
use mathlib.Core.Bool.{Bool, true, false}
use mir.Val.{bool_byte as from_bool}
use Rattle.alignment_fields.specs.Alignment.{bool_byte}

-- the byte that the language makes of a bool
pub byte_from : (b : Bool) → from_bool b ≡ bool_byte b
byte_from true = refl
byte_from false = refl
