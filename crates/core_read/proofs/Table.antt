-- Document 01's table of refusals and those that document 02 adds, a row a refusal: the number, a and b. A figure that is not named there is 0.
use mathlib.Core.Path.{◌≡◌, refl}
use Prim.Native.Nat.{ℕ}
use Rattle.core_read.specs.Refusals.{list_number, text_number, refused, refusal_by_number}
use Rattle.core_read.specs.declared.error.NumberList.{NumberList}
use Rattle.core_read.specs.declared.error.CheckedText.{CheckedText}
use Rattle.core_read.specs.declared.error.Refusal.TheVariants.{TooLong, BadPlace, ShortList, UnexpectedEof, NoNul, PerCharacter, IllFormedUtf8, SectionSize, BadName, Reserve0, ListLength, BadFlip, TextLength, IllFormedUtf16, NoLineBit, OutputEnd, PastSection}

pub record Table : Type 0 where
  pub too_long : (length : ℕ) → refusal_by_number (TooLong length) ≡ refused 1 length 0
  pub bad_place : (place : ℕ) → refusal_by_number (BadPlace place) ≡ refused 2 place 0
  pub short_list : (list : NumberList) (need : ℕ) → refusal_by_number (ShortList list need) ≡ refused 3 (list_number list) need
  pub bytes_run_out : (offset requested : ℕ) → refusal_by_number (UnexpectedEof offset requested) ≡ refused 4 offset requested
  pub no_nul : (place : ℕ) → refusal_by_number (NoNul place) ≡ refused 5 place 0
  pub per_character : (value : ℕ) → refusal_by_number (PerCharacter value) ≡ refused 6 value 0
  pub ill_formed_utf8 : (place : ℕ) (which : CheckedText) → refusal_by_number (IllFormedUtf8 place which) ≡ refused 7 place (text_number which)
  pub section_size : (place size : ℕ) → refusal_by_number (SectionSize place size) ≡ refused 8 place size
  pub bad_name : (which : CheckedText) → refusal_by_number (BadName which) ≡ refused 9 (text_number which) 0
  pub reserve0 : (value : ℕ) → refusal_by_number (Reserve0 value) ≡ refused 10 value 0
  pub list_length : (list : NumberList) (length : ℕ) → refusal_by_number (ListLength list length) ≡ refused 11 (list_number list) length
  pub bad_flip : (frame flip : ℕ) → refusal_by_number (BadFlip frame flip) ≡ refused 12 frame flip
  pub text_length : (units long : ℕ) → refusal_by_number (TextLength units long) ≡ refused 13 units long
  pub ill_formed_utf16 : (units : ℕ) → refusal_by_number (IllFormedUtf16 units) ≡ refused 14 units 0
  pub no_line_bit : refusal_by_number NoLineBit ≡ refused 15 0 0
  pub output_end : (end length : ℕ) → refusal_by_number (OutputEnd end length) ≡ refused 16 end length
  pub past_section : (reach end : ℕ) → refusal_by_number (PastSection reach end) ≡ refused 19 reach end

pub table : Table
table = record {
  too_long = λ n. refl;
  bad_place = λ p. refl;
  short_list = λ l n. refl;
  bytes_run_out = λ o r. refl;
  no_nul = λ p. refl;
  per_character = λ v. refl;
  ill_formed_utf8 = λ p w. refl;
  section_size = λ p s. refl;
  bad_name = λ w. refl;
  reserve0 = λ v. refl;
  list_length = λ l n. refl;
  bad_flip = λ i f. refl;
  text_length = λ u t. refl;
  ill_formed_utf16 = λ u. refl;
  no_line_bit = refl;
  output_end = λ e n. refl;
  past_section = λ r e. refl;
}
