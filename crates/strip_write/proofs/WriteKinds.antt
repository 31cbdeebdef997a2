-- The section write of each kind, as the code makes it.
use mathlib.Core.Path.{◌≡◌, refl, sym, ap, ◌∙◌}
use Prim.Native.Nat.{ℕ, ◌+◌, ◌^◌, ◌≤◌, ◌<◌}
use native.Mathlib.Omega.{arith}
use mathlib.Core.List.{List, [], ◌++◌, append_assoc}
use lib.ListN.{length, replicate}
use Rattle.core_read.specs.Bytes.{bytes_of, padding}
use Rattle.core_read.specs.Taken.{start, Place}
use Rattle.core_checks.specs.Checks.{length_checked, section_checked, section_start, end_checked, Written}
use Rattle.core_read.specs.declared.cursor.ByteOrder.{ByteOrder}
use Rattle.core_read.specs.declared.cursor.Cursor.{Cursor}
use Rattle.core_checks.proofs.Checked.{end_cleared, wrote}
use Rattle.core_write.proofs.Chain.{◌then◌, puts_as, puts_none}
use Rattle.core_write.proofs.Puts.{put_as}
use Rattle.core_write.specs.Puts.{Puts}
use Rattle.core_write.specs.declared.writer.Writer.{Writer}
use Rattle.pane_read.specs.Pane.{encode_pane, Sound}
use Rattle.pane_checks.specs.Checks.{names_checked, reserve_checked}
use Rattle.pane_read.specs.declared.Pane.{Pane}
use Rattle.pane.proofs.Cleared.{sound}
use Rattle.picture_fields.specs.Picture.{picture_checked, GoodPicture}
use Rattle.picture.specs.Body as picture
use Rattle.picture_fields.specs.declared.PicturePane.{PicturePane}
use Rattle.text_box_parts.specs.Parts.{label_part}
use Rattle.text_box_read.specs.declared.TextBoxPane.{TextBoxPane}
use Rattle.text_box_write.specs.Written.{Small, text_box_length}
use Rattle.text_box_checks.specs.Checks.{label_length_checked, label_name_checked, text_box_checked}
use Rattle.text_box.specs.Body as text-box
use Rattle.text_box.proofs.Cleared.{small}
use Rattle.window_read.specs.declared.WindowPane.{WindowPane}
use Rattle.window_write.specs.Write.{window_checked, window_length, GoodWindow}
use Rattle.window.specs.Body as window
use Rattle.alignment.specs.Body as alignment
use Rattle.alignment_fields.specs.declared.AlignmentPane.{AlignmentPane}
use Rattle.strip_records.specs.Kinds.{letter_bytes}
use Rattle.strip_records.specs.Whole.{Whole, whole, pan1, pic1, txt1, wnd1, ali1}
use Rattle.strip_write.specs.Write.{own_length_checked, own_name_checked, own_checked, body_length, encode_body, section_size, size_of, section, write_checked, write_answer, write_output}
use Rattle.strip_records.specs.declared.kind.Kind.TheVariants.{Pan1, Pic1, Txt1, Wnd1, Ali1}
use Rattle.strip_records.specs.declared.record.Record.{Record}
use Rattle.strip_write.proofs.Cleared.{OwnGood, before_end, checks_cleared}
use Rattle.strip_write.proofs.Steps.{room, size_parts}
use Rattle.std.specs.Prelude.{Ok}

-- ---- any kind

size_of_lem : (m : ℕ) → 8 + (m + padding m) ≡ section_size m
size_of_lem m = omega (arith, size_parts m)

module _ (w : Whole) (n p : ℕ) (e : before_end w n p ≡ Ok (start p)) where
  -- the checks before 16 were passed
  pub place_small : p ≤ 16777216
  place_small = let k = checks_cleared w n p (start p) e in omega (arith, k.place.most, k.place.within)

  pub own_good : OwnGood w.pane.kind w
  own_good = (checks_cleared w n p (start p) e).own

  -- 16 was passed too, with the body's length m: the base can be put, and there is room
  module _ (m : ℕ) (f : m ≡ body_length w.pane.kind (p + 8) w) (g : (c : Cursor) → end_checked (Ok c) (p + section_size m) n ≡ Ok c) where
    pub end_made : write_checked w n p ≡ Ok (start p)
    unfolding write_checked
    end_made = rw (e, ← f) (g (start p))

    pub fits : Sound w.pane.base × (p + 8 + m + padding m ≤ n)
    fits =
        let (_, long) = end_cleared _ _ n (start p) (g (start p)) in
        (sound _ (checks_cleared w n p (start p) e).good, room m p n long)

section_bytes : (order : ByteOrder) (w : Whole) (p m : ℕ) → m ≡ body_length w.pane.kind (p + 8) w
    → letter_bytes w.pane.kind ++ bytes_of order 4 (section_size m) ++ (encode_body w.pane.kind order (p + 8) w ++ replicate (padding m) 0) ≡ section order p w
unfolding section
section_bytes order w p m f = rw f (append_assoc (letter_bytes w.pane.kind) (bytes_of order 4 (size_of p w)) _)

-- header, body, padding
laid : (w : Whole) (m y : ℕ) {a b c d : Writer} → m ≡ body_length w.pane.kind (a.place + 8) w → y ≡ padding m
    → Puts a b 8 (λ order. letter_bytes w.pane.kind ++ bytes_of order 4 (section_size m))
    → Puts b c (body_length w.pane.kind (a.place + 8) w) (λ order. encode_body w.pane.kind order (a.place + 8) w)
    → Puts c d y (λ order. replicate y 0)
    → Puts a d (section_size m) (λ order. section order a.place w)
laid w m y {a} f g header body zeros =
    let zeros' = puts_as g (λ order. ap (λ (n : ℕ). replicate n 0) g) zeros in
    let body' = puts_as (sym f) (λ order. refl) body in
    puts_as (size_of_lem m) (λ order. section_bytes order w a.place m f) (header then body' then zeros')

-- accepted
pub written : (w : Whole) (m : ℕ) {a d : Writer} (k : Cursor) → write_checked w (length a.out.now) a.place ≡ Ok k → m ≡ body_length w.pane.kind (a.place + 8) w
    → Puts a d (section_size m) (λ order. section order a.place w)
    → (Ok d.place ≡ write_answer w (length a.out.now) a.place) × (d.out.now ≡ write_output a.order w a.out.now a.place)
unfolding write_answer write_output
written w m k h f x = wrote _ _ h (put_as (ap section_size f) refl x.put)

-- ---- the checks of each kind before 16: what the last of them answers where those before it were passed

module _ (base : Pane) (n p : ℕ) (r : Place) where
  pub pan1_run : reserve_checked (names_checked (section_start n p) base) base ≡ r → before_end (whole (pan1 base) [] [] [] [] []) n p ≡ r
  unfolding section_start own_length_checked own_name_checked own_checked
  pan1_run e = e

  pub ali1_run : (own : AlignmentPane) → reserve_checked (names_checked (section_start n p) base) base ≡ r → before_end (whole (ali1 base own) [] [] [] [] []) n p ≡ r
  unfolding section_start own_length_checked own_name_checked own_checked
  ali1_run own e = e

  module _ (e : reserve_checked (names_checked (section_start n p) base) base ≡ Ok (start p)) where
    pub pic1_run : (own : PicturePane) (quads : List ℕ) → picture_checked (Ok (start p)) quads ≡ r → before_end (whole (pic1 base own) quads [] [] [] []) n p ≡ r
    unfolding section_start own_length_checked own_name_checked own_checked
    pic1_run own quads h = rw e h

    pub wnd1_run : (own : WindowPane) (quads frames : List ℕ) → window_checked (Ok (start p)) quads frames ≡ r → before_end (whole (wnd1 base own) quads [] [] frames []) n p ≡ r
    unfolding section_start own_length_checked own_name_checked own_checked
    wnd1_run own quads frames h = rw e h

  pub txt1_run : (own : TextBoxPane) (units lines label : List ℕ)
      → reserve_checked (label_name_checked (names_checked (section_checked (label_length_checked (length_checked (Ok (start p)) n) (label_part own.label label)) n p) base) (label_part own.label label)) base ≡ Ok (start p)
      → text_box_checked (Ok (start p)) own units lines ≡ r → before_end (whole (txt1 base own) [] units lines [] label) n p ≡ r
  unfolding own_length_checked own_name_checked own_checked
  txt1_run own units lines label e h = rw e h

-- ---- what they tell of the lists

module _ (n p : ℕ) (base : Pane) where
  pub pic1_good : (own : PicturePane) (quads : List ℕ) → before_end (whole (pic1 base own) quads [] [] [] []) n p ≡ Ok (start p) → GoodPicture quads
  unfolding OwnGood
  pic1_good own quads e = own_good (whole (pic1 base own) quads [] [] [] []) n p e

  pub wnd1_good : (own : WindowPane) (quads frames : List ℕ) → before_end (whole (wnd1 base own) quads [] [] frames []) n p ≡ Ok (start p) → GoodWindow quads frames
  unfolding OwnGood
  wnd1_good own quads frames e = own_good (whole (wnd1 base own) quads [] [] frames []) n p e

  pub txt1_good : (own : TextBoxPane) (units lines label : List ℕ) → before_end (whole (txt1 base own) [] units lines [] label) n p ≡ Ok (start p) → own.text_length < 256 ^ 2 → Small own units lines label
  unfolding OwnGood
  txt1_good own units lines label e t = small own units lines label t (own_good (whole (txt1 base own) [] units lines [] label) n p e)

-- ---- the bytes of each kind

pub text_length : (p : ℕ) (own : TextBoxPane) (units lines label : List ℕ) (x : ℕ) → x ≡ text_box_length p own units lines label → 76 + x ≡ 76 + text_box_length p own units lines label
text_length p own units lines label x e = rw e

pub window_length_lem : (p : ℕ) (quads frames : List ℕ) (x : ℕ) → x ≡ window_length p (length quads) (length frames) → 76 + x ≡ window.body_length p quads frames
unfolding window.body_length
window_length_lem p quads frames x e = rw e

module _ (base : Pane) {a b c : Writer} where
  pub pan1_laid : Puts a b 8 (λ order. letter_bytes Pan1 ++ bytes_of order 4 (section_size 76)) → Puts b c 76 (λ order. encode_pane order base)
      → Puts a c (section_size 76) (λ order. section order a.place (whole (pan1 base) [] [] [] [] []))
  unfolding encode_body padding
  pan1_laid header body = laid (whole (pan1 base) [] [] [] [] []) 76 0 refl refl header body (puts_none _)

  pub ali1_laid : (own : AlignmentPane) → Puts a b 8 (λ order. letter_bytes Ali1 ++ bytes_of order 4 (section_size 88)) → Puts b c 88 (λ order. alignment.encode_body order base own)
      → Puts a c (section_size 88) (λ order. section order a.place (whole (ali1 base own) [] [] [] [] []))
  unfolding encode_body padding
  ali1_laid own header body = laid (whole (ali1 base own) [] [] [] [] []) 88 0 refl refl header body (puts_none _)

module _ (base : Pane) {a b c d : Writer} (m y : ℕ) (g : y ≡ padding m) (zeros : Puts c d y (λ order. replicate y 0)) where
  pub pic1_laid : (own : PicturePane) (quads : List ℕ) → m ≡ picture.body_length own quads
      → Puts a b 8 (λ order. letter_bytes Pic1 ++ bytes_of order 4 (section_size m)) → Puts b c (picture.body_length own quads) (λ order. picture.encode_body order base own quads)
      → Puts a d (section_size m) (λ order. section order a.place (whole (pic1 base own) quads [] [] [] []))
  unfolding encode_body
  pic1_laid own quads f header body = laid (whole (pic1 base own) quads [] [] [] []) m y f g header body zeros

  pub wnd1_laid : (own : WindowPane) (quads frames : List ℕ) → m ≡ window.body_length (a.place + 8) quads frames
      → Puts a b 8 (λ order. letter_bytes Wnd1 ++ bytes_of order 4 (section_size m)) → Puts b c (window.body_length b.place quads frames) (λ order. window.encode_body order b.place base own quads frames)
      → Puts a d (section_size m) (λ order. section order a.place (whole (wnd1 base own) quads [] [] frames []))
  unfolding encode_body
  wnd1_laid own quads frames f header body =
      let at = header.put.place in
      let body' = puts_as (ap (λ (q : ℕ). window.body_length q quads frames) at) (λ order. ap (λ (q : ℕ). window.encode_body order q base own quads frames) at) body in
      laid (whole (wnd1 base own) quads [] [] frames []) m y f g header body' zeros

  pub txt1_laid : (own : TextBoxPane) (units lines label : List ℕ) → m ≡ 76 + text_box_length (a.place + 8) own units lines label
      → Puts a b 8 (λ order. letter_bytes Txt1 ++ bytes_of order 4 (section_size m))
      → Puts b c (76 + text_box_length b.place own units lines label) (λ order. text-box.encode_body order b.place base own units lines label)
      → Puts a d (section_size m) (λ order. section order a.place (whole (txt1 base own) [] units lines [] label))
  unfolding encode_body
  txt1_laid own units lines label f header body =
      let at = header.put.place in
      let body' = puts_as (ap (λ (q : ℕ). 76 + text_box_length q own units lines label) at) (λ order. ap (λ (q : ℕ). text-box.encode_body order q base own units lines label) at) body in
      laid (whole (txt1 base own) [] units lines [] label) m y f g header body' zeros

-- ---- what a kind lacks is not looked at

abbrev pub SameWrite : ByteOrder → List ℕ → ℕ → Whole → Whole → Type 0
SameWrite order o p w x = (write_answer w (length o) p ≡ write_answer x (length o) p) × (write_output order w o p ≡ write_output order x o p)

pub alone : (order : ByteOrder) (o : List ℕ) (p : ℕ) (w x : Whole) {o₁ : List ℕ} {a : Written} → SameWrite order o p w x
    → (a ≡ write_answer w (length o) p) × (o₁ ≡ write_output order w o p) → (a ≡ write_answer x (length o) p) × (o₁ ≡ write_output order x o p)
alone order o p w x h k = (k.0 ∙ h.0, k.1 ∙ h.1)

module _ (order : ByteOrder) (o : List ℕ) (p : ℕ) (x : Record) (quads units lines frames label : List ℕ) where
  pub pan1_alone : x.kind ≡ Pan1 → SameWrite order o p (whole (pan1 x.base) [] [] [] [] []) (whole x quads units lines frames label)
  unfolding write_answer write_output write_checked own_length_checked own_name_checked own_checked section encode_body
  pan1_alone e = rw e (refl, refl)

  pub pic1_alone : x.kind ≡ Pic1 → SameWrite order o p (whole (pic1 x.base x.picture) quads [] [] [] []) (whole x quads units lines frames label)
  unfolding write_answer write_output write_checked own_length_checked own_name_checked own_checked section encode_body
  pic1_alone e = rw e (refl, refl)

  pub txt1_alone : x.kind ≡ Txt1 → SameWrite order o p (whole (txt1 x.base x.text_box) [] units lines [] label) (whole x quads units lines frames label)
  unfolding write_answer write_output write_checked own_length_checked own_name_checked own_checked section encode_body
  txt1_alone e = rw e (refl, refl)

  pub wnd1_alone : x.kind ≡ Wnd1 → SameWrite order o p (whole (wnd1 x.base x.window) quads [] [] frames []) (whole x quads units lines frames label)
  unfolding write_answer write_output write_checked own_length_checked own_name_checked own_checked section encode_body
  wnd1_alone e = rw e (refl, refl)

  pub ali1_alone : x.kind ≡ Ali1 → SameWrite order o p (whole (ali1 x.base x.alignment) [] [] [] [] []) (whole x quads units lines frames label)
  unfolding write_answer write_output write_checked own_length_checked own_name_checked own_checked section encode_body
  ali1_alone e = rw e (refl, refl)
