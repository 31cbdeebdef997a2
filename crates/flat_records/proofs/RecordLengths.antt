-- How many words a record has.
use mathlib.Core.Path.{◌≡◌, refl}
use Prim.Native.Nat.{ℕ, zero, suc, ◌≤◌}
use native.Mathlib.Omega.{arith}
use lib.ListN.{length, length-append}
use Rattle.strip_records.specs.declared.kind.Kind.{Kind}
use Rattle.strip_records.specs.declared.kind.Kind.TheVariants.{Pan1, Pic1, Txt1, Wnd1, Ali1}
use Rattle.strip_records.specs.declared.record.Record.{Record}
use Rattle.flat.specs.Base.{base_words}
use Rattle.flat_kinds.specs.Own.{picture_words, window_words}
use Rattle.flat_records.specs.Records.{kind_of, own_words, record_words}
use Rattle.flat.proofs.Lengths.{base_long}
use Rattle.flat_kinds.proofs.OwnLengths.{shape_long}
use Rattle.flat_text_box.proofs.Lengths.{text_box_long}

own_long : (k : Kind) (r : Record) → length (own_words k r) ≤ 54
unfolding own_words picture_words window_words
own_long Pan1 r = omega arith
own_long Pic1 r = omega (arith, shape_long r.picture.shape_info_array_index)
own_long Txt1 r = omega (arith, text_box_long r.text_box)
own_long Wnd1 r = omega arith
own_long Ali1 r = omega arith

-- a record has at most RECORD_WORDS words
pub record_long : (r : Record) → length r.base.pane_name.bytes ≡ 24 → length r.base.user_name.bytes ≡ 8 → length (record_words r) ≤ 116
unfolding record_words
record_long r h k =
    omega (arith, length-append (base_words r.base) (own_words r.kind r), base_long r.base h k, own_long r.kind r)

-- a number past those of the kinds before it is the last
pub kind_last : (n : ℕ) → 4 ≤ n → Ali1 ≡ kind_of n
kind_last zero h = absurd (omega arith)
kind_last (suc zero) h = absurd (omega arith)
kind_last (suc (suc zero)) h = absurd (omega arith)
kind_last (suc (suc (suc zero))) h = absurd (omega arith)
kind_last (suc (suc (suc (suc n)))) h = refl
