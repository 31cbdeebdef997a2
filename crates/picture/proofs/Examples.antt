-- Worked examples.
use mathlib.Core.Path.{◌≡◌, refl}
use Prim.Native.Nat.{ℕ}
use mathlib.Core.Bool.{true, false}
use mathlib.Core.List.{List, [], ◌∷◌, ◌++◌}
use lib.ListN.{replicate}
use Rattle.core_read.specs.Bytes.{number_at, spelled, part}
use Rattle.core_read.specs.Taken.{start, advanced, number_taken}
use Rattle.core_read.specs.Lists.{numbers_taken}
use Rattle.core_checks.specs.Checks.{count_bad}
use Rattle.core_read.specs.declared.error.Refusal.TheVariants.{UnexpectedEof}
use Rattle.core_read.specs.declared.cursor.ByteOrder.TheVariants.{Little}
use Rattle.ui2d.specs.Parts.{colors_taken, color_taken}
use Rattle.picture_fields.specs.Picture.{shape_taken, picture_taken, shape_byte}
use Rattle.std.specs.Prelude.{Err, Ok, Some}

-- 255 quads are written, 256 refused by 11, and so is a part of a quad
most_quads : count_bad 8 2040 ≡ false
unfolding count_bad
most_quads = refl

too_many_quads : count_bad 8 2048 ≡ true
unfolding count_bad
too_many_quads = refl

part_of_quad : count_bad 8 7 ≡ true
unfolding count_bad
part_of_quad = refl

-- no quads, shape byte 7, and the index 258 after it: 24 bytes, of which the byte is written 1
abbrev shaped : List ℕ
shaped = replicate 18 0 ++ (0 ∷ 7 ∷ 2 ∷ 1 ∷ 0 ∷ 0 ∷ [])

index_read : (picture_taken Little shaped (Ok (start 0))).value.picture.shape_info_array_index ≡ Some 258
unfolding picture_taken colors_taken color_taken number_taken numbers_taken shape_taken number_at spelled part start advanced
index_read = refl

index_end : (picture_taken Little shaped (Ok (start 0))).then ≡ Ok (start 24)
unfolding picture_taken colors_taken color_taken number_taken numbers_taken shape_taken number_at spelled part start advanced
index_end = refl

byte_written : shape_byte (Some 258) ≡ 1
byte_written = refl

-- one quad counted and 19 of its bytes there: 4 with the place of the fifth number
quad_short : (picture_taken Little (replicate 18 0 ++ (1 ∷ replicate 20 0)) (Ok (start 0))).then ≡ Err (UnexpectedEof 36 4)
unfolding picture_taken colors_taken color_taken number_taken numbers_taken shape_taken number_at spelled part start advanced
quad_short = refl
