-- What the checks of the section write tell.
use mathlib.Core.Path.{◌≡◌}
use Prim.Native.Nat.{ℕ, ◌+◌, ◌≤◌}
use native.Mathlib.Omega.{arith}
use mathlib.Core.List.{List}
use Rattle.core_read.specs.Bytes.{padding}
use Rattle.core_read.specs.Taken.{start, Place}
use Rattle.core_checks.specs.Checks.{length_checked, section_checked}
use Rattle.core_read.specs.declared.cursor.Cursor.{Cursor}
use Rattle.core_checks.proofs.Checked.{SectionOk, length_cleared, section_cleared, end_cleared}
use Rattle.pane_checks.specs.Checks.{names_checked, reserve_checked}
use Rattle.pane.proofs.Cleared.{Good, names_cleared, reserve_cleared}
use Rattle.picture_fields.specs.Picture.{GoodPicture}
use Rattle.picture.proofs.Cleared.{picture_cleared}
use Rattle.text_box_parts.specs.Parts.{label_part}
use Rattle.text_box_write.specs.Written.{Few}
use Rattle.text_box.proofs.Cleared.{GoodLabel, GoodTextBox, label_length_cleared, label_name_cleared, text_box_early, text_box_cleared}
use Rattle.window_write.specs.Write.{GoodWindow}
use Rattle.window.proofs.Cleared.{window_cleared}
use Rattle.strip_records.specs.Whole.{Whole}
use Rattle.strip_write.specs.Write.{own_length_checked, own_name_checked, own_checked, section_size, section_end, write_checked}
use Rattle.strip_records.specs.declared.kind.Kind.{Kind}
use Rattle.strip_records.specs.declared.kind.Kind.TheVariants.{Pan1, Pic1, Txt1, Wnd1, Ali1}
use Rattle.strip_records.specs.declared.record.Record.{Record}
use Rattle.std.specs.Prelude.{Ok}

-- what the kind's own checks leave: 1 and 9 of a label, then 11 to 15
unfoldable pub OwnLength : Kind → Record → List ℕ → Type 0
OwnLength Pan1 r label = Unit {0}
OwnLength Pic1 r label = Unit {0}
OwnLength Txt1 r label = Few 16777216 (label_part r.text_box.label label)
OwnLength Wnd1 r label = Unit {0}
OwnLength Ali1 r label = Unit {0}

unfoldable pub OwnName : Kind → Record → List ℕ → Type 0
OwnName Pan1 r label = Unit {0}
OwnName Pic1 r label = Unit {0}
OwnName Txt1 r label = GoodLabel (label_part r.text_box.label label)
OwnName Wnd1 r label = Unit {0}
OwnName Ali1 r label = Unit {0}

unfoldable pub OwnGood : Kind → Whole → Type 0
OwnGood Pan1 w = Unit {0}
OwnGood Pic1 w = GoodPicture w.lists.quads
OwnGood Txt1 w = GoodTextBox w.pane.text_box w.lists.units w.lists.lines w.label
OwnGood Wnd1 w = GoodWindow w.lists.quads w.lists.frames
OwnGood Ali1 w = Unit {0}

length_cleared_by : (k : Kind) (p : Place) (r : Record) (label : List ℕ) (c : Cursor) → own_length_checked k p r label ≡ Ok c → (p ≡ Ok c) × OwnLength k r label
unfolding own_length_checked OwnLength
length_cleared_by Pan1 p r label c e = (e, tt)
length_cleared_by Pic1 p r label c e = (e, tt)
length_cleared_by Txt1 p r label c e = label_length_cleared p (label_part r.text_box.label label) c e
length_cleared_by Wnd1 p r label c e = (e, tt)
length_cleared_by Ali1 p r label c e = (e, tt)

name_cleared_by : (k : Kind) (p : Place) (r : Record) (label : List ℕ) (c : Cursor) → own_name_checked k p r label ≡ Ok c → (p ≡ Ok c) × OwnName k r label
unfolding own_name_checked OwnName
name_cleared_by Pan1 p r label c e = (e, tt)
name_cleared_by Pic1 p r label c e = (e, tt)
name_cleared_by Txt1 p r label c e = label_name_cleared p (label_part r.text_box.label label) c e
name_cleared_by Wnd1 p r label c e = (e, tt)
name_cleared_by Ali1 p r label c e = (e, tt)

own_early : (k : Kind) (p : Place) (w : Whole) (c : Cursor) → own_checked k p w ≡ Ok c → p ≡ Ok c
unfolding own_checked
own_early Pan1 p w c e = e
own_early Pic1 p w c e = (picture_cleared p w.lists.quads c e).0
own_early Txt1 p w c e = text_box_early p w.pane.text_box w.lists.units w.lists.lines c e
own_early Wnd1 p w c e = (window_cleared p w.lists.quads w.lists.frames c e).0
own_early Ali1 p w c e = e

own_cleared : (k : Kind) (p : Place) (w : Whole) (c : Cursor) → own_checked k p w ≡ Ok c → OwnLength k w.pane w.label → OwnName k w.pane w.label → OwnGood k w
unfolding own_checked OwnLength OwnName OwnGood
own_cleared Pan1 p w c e l n = tt
own_cleared Pic1 p w c e l n = (picture_cleared p w.lists.quads c e).1
own_cleared Txt1 p w c e l n = (text_box_cleared p w.pane.text_box w.lists.units w.lists.lines w.label c e l n).1
own_cleared Wnd1 p w c e l n = (window_cleared p w.lists.quads w.lists.frames c e).1
own_cleared Ali1 p w c e l n = tt

-- what the checks before 16 tell
pub record Passed (w : Whole) (n p : ℕ) : Type 0 where
  pub place : SectionOk n p
  pub good : Good w.pane.base
  pub own : OwnGood w.pane.kind w

abbrev pub before_end : Whole → ℕ → ℕ → Place
before_end w n p =
    own_checked w.pane.kind
    (reserve_checked
    (own_name_checked w.pane.kind (names_checked (section_checked (own_length_checked w.pane.kind (length_checked (Ok (start p)) n) w.pane w.label) n p) w.pane.base) w.pane w.label)
    w.pane.base)
    w

pub checks_cleared : (w : Whole) (n p : ℕ) (c : Cursor) → before_end w n p ≡ Ok c → Passed w n p
checks_cleared w n p c e =
    let k = w.pane.kind in
    let b = w.pane.base in
    let (e₅, reserve) = reserve_cleared _ b c (own_early k _ w c e) in
    let (e₄, label) = name_cleared_by k _ w.pane w.label c e₅ in
    let (e₃, name, user) = names_cleared _ b c e₄ in
    let (e₂, within, whole) = section_cleared _ n p c e₃ in
    let (e₁, short) = length_cleared_by k _ w.pane w.label c e₂ in
    let (e₀, most) = length_cleared _ n c e₁ in
    record {
      place = record { most = most; within = within; whole = whole };
      good = record { name = name; user = user; reserve = reserve };
      own = own_cleared k _ w c e short label;
    }

-- what lets a section write through
pub record Accepts (w : Whole) (n p : ℕ) : Type 0 where
  pub place : SectionOk n p
  pub good : Good w.pane.base
  pub own : OwnGood w.pane.kind w
  pub fits : section_end p w ≤ n

pub write_cleared : (w : Whole) (n p : ℕ) (c : Cursor) → write_checked w n p ≡ Ok c → Accepts w n p
unfolding write_checked
write_cleared w n p c e =
    let (h, f) = end_cleared _ _ n c e in
    let k = checks_cleared w n p c h in
    record { place = k.place; good = k.good; own = k.own; fits = f }

pub size_bound : (n : ℕ) → section_size n ≤ n + 11
unfolding section_size padding
size_bound n = omega arith
