-- Every body of a kind has at least the kind's fixed length, and those of pan1 and ali1 have just that.
use Prim.Native.Nat.{ℕ, ◌≤◌}
use mathlib.Core.Path.{◌≡◌, refl}
use native.Mathlib.Omega.{arith}
use Rattle.picture_fields.specs.Picture.{picture_length}
use Rattle.picture.specs.Body as picture
use Rattle.text_box_write.specs.Written.{text_box_length}
use Rattle.window_write.specs.Write.{window_length}
use Rattle.window.specs.Body as window
use Rattle.strip_records.specs.Kinds.{length_of}
use Rattle.strip_write.specs.Write.{body_length}
use Rattle.strip_records.specs.Whole.{Whole}
use Rattle.strip_records.specs.declared.kind.Kind.{Kind}
use Rattle.strip_records.specs.declared.kind.Kind.TheVariants.{Pan1, Pic1, Txt1, Wnd1, Ali1}

pub fixed_least : (k : Kind) (body : ℕ) (w : Whole) → length_of k ≤ body_length k body w
unfolding picture.body_length picture_length text_box_length window.body_length window_length
fixed_least Pan1 body w = omega arith
fixed_least Pic1 body w = omega arith
fixed_least Txt1 body w = omega arith
fixed_least Wnd1 body w = omega arith
fixed_least Ali1 body w = omega arith

pub fixed_pan1 : (body : ℕ) (w : Whole) → body_length Pan1 body w ≡ length_of Pan1
fixed_pan1 body w = refl

pub fixed_ali1 : (body : ℕ) (w : Whole) → body_length Ali1 body w ≡ length_of Ali1
fixed_ali1 body w = refl
