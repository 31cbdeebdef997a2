-- Words at a place of a lent record, and the values that they stand for.
use Rattle.std.specs.Prelude.{◌≡◌, ℕ, zero, suc, ◌+◌, ◌%◌, Bool, cond, List, [], ◌∷◌, ◌++◌, length, get_or, Option, None, Some}
use mir.Val.{bool_byte}
use Rattle.core_read.specs.Bytes.{splice}
use Rattle.flags.specs.Packed.{flag_of}
use Rattle.floats.specs.Floats.{float}
use Rattle.ui2d.specs.Typed.{color_at}
use Rattle.floats.specs.declared.Binary32.{Binary32}
use Rattle.ui2d.specs.declared.Vector2f.{Vector2f}
use Rattle.ui2d.specs.declared.Vector3f.{Vector3f}
use Rattle.ui2d.specs.declared.Color4u8.{Color4u8}

-- ---- stored

-- o' is o with the words e from p on, and no other word changed
pub record Stored (o : List ℕ) (p : ℕ) (e : List ℕ) (o' : List ℕ) : Type 0 where
  pub long : length o' ≡ length o
  pub words : o' ≡ splice o p e

-- a flag: 0 or 1
abbrev pub flag_word : Bool → ℕ
flag_word b = bool_byte b

-- r, g, b, a
abbrev pub color_words : Color4u8 → List ℕ
color_words v = v.r ∷ v.g ∷ v.b ∷ v.a ∷ []

-- top left, top right, bottom left, bottom right
abbrev pub colors_words : List Color4u8 → List ℕ
colors_words vs = color_words (color_at vs 0) ++ (color_words (color_at vs 1) ++ (color_words (color_at vs 2) ++ color_words (color_at vs 3)))

-- 0 and 0, or 1 and what there is
abbrev pub option_words : {A : Type 0} → (A → ℕ) → Option A → List ℕ
option_words word None = 0 ∷ 0 ∷ []
option_words word (Some x) = 1 ∷ word x ∷ []

-- ---- read back

-- a word is read by its low 8, 16 or 32 bits; a flag is set where its word is 1
abbrev pub byte_at : List ℕ → ℕ → ℕ
byte_at w i = get_or w i 0 % 256

abbrev pub half_at : List ℕ → ℕ → ℕ
half_at w i = get_or w i 0 % 65536

abbrev pub word_at : List ℕ → ℕ → ℕ
word_at w i = get_or w i 0 % 4294967296

abbrev pub flag_at : List ℕ → ℕ → Bool
flag_at w i = flag_of (get_or w i 0)

abbrev pub float_at : List ℕ → ℕ → Binary32
float_at w i = float (word_at w i)

abbrev pub vector2_at : List ℕ → ℕ → Vector2f
vector2_at w i = record { x = float_at w i; y = float_at w (i + 1) }

abbrev pub vector3_at : List ℕ → ℕ → Vector3f
vector3_at w i = record { x = float_at w i; y = float_at w (i + 1); z = float_at w (i + 2) }

abbrev pub quadruple_at : List ℕ → ℕ → Color4u8
quadruple_at w i = record { r = byte_at w i; g = byte_at w (i + 1); b = byte_at w (i + 2); a = byte_at w (i + 3) }

abbrev pub colors_at : List ℕ → ℕ → List Color4u8
colors_at w i = quadruple_at w i ∷ quadruple_at w (i + 4) ∷ quadruple_at w (i + 8) ∷ quadruple_at w (i + 12) ∷ []

-- what stands at i, where the flag at f is set
abbrev pub option_at : {A : Type 0} → (ℕ → A) → List ℕ → ℕ → ℕ → Option A
option_at of w f i = cond (flag_at w f) (Some (of (get_or w i 0))) None

-- n bytes from a place on
unfoldable pub bytes_at : List ℕ → ℕ → ℕ → List ℕ
bytes_at w i zero = []
bytes_at w i (suc n) = byte_at w i ∷ bytes_at w (i + 1) n
