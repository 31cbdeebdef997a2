-- THE LAW: words that a read hands out are, handed in again, the same record.
use mathlib.Core.Path.{◌≡◌, refl, sym, ap, ◌∙◌}
use Prim.Native.Nat.{ℕ, ◌+◌, ◌≤◌}
use native.Mathlib.Omega.{arith}
use mathlib.Core.List.{List, [], ◌∷◌, ◌++◌}
use lib.ListN.{length, drop}
use Rattle.core_read.proofs.Back.{Holds, split}
use Rattle.core_write.proofs.Puts.{splice_cut}
use Rattle.core_read.specs.Bytes.{splice}
use Rattle.pane_read.specs.declared.Pane.{Pane}
use Rattle.picture_fields.specs.declared.PicturePane.{PicturePane}
use Rattle.text_box_read.specs.declared.TextBoxPane.{TextBoxPane}
use Rattle.window_read.specs.declared.WindowPane.{WindowPane}
use Rattle.alignment_fields.specs.declared.AlignmentPane.{AlignmentPane}
use Rattle.strip_records.specs.declared.kind.Kind.{Kind}
use Rattle.strip_records.specs.declared.kind.Kind.TheVariants.{Pan1, Pic1, Txt1, Wnd1, Ali1}
use Rattle.strip_records.specs.declared.record.Record.{Record}
use Rattle.flat.specs.Base.{base_words}
use Rattle.flat_records.specs.Records.{kind_number, kind_of, own_words, record_words, record_by, record_of}
use Rattle.flat_records.specs.Typed.{TypedWords, OthersBlank}
use Rattle.flat.proofs.Lengths.{base_long}
use Rattle.flat_records.proofs.RecordLengths.{record_long}
use Rattle.flat_records.proofs.BackParts.{nth}
use Rattle.flat_records.proofs.BackBase.{base_back, picture_back, pane_alignment_back}
use Rattle.flat_records.proofs.BackOwn.{text_box_back, window_back}

pub kind_back : (k : Kind) → kind_of (kind_number k) ≡ k
kind_back Pan1 = refl
kind_back Pic1 = refl
kind_back Txt1 = refl
kind_back Wnd1 = refl
kind_back Ali1 = refl

-- a record by its fields
by_fields : (r : Record) (k : Kind) (b : Pane) (p : PicturePane) (t : TextBoxPane) (w : WindowPane) (a : AlignmentPane)
    → k ≡ r.kind → b ≡ r.base → p ≡ r.picture → t ≡ r.text_box → w ≡ r.window → a ≡ r.alignment
    → ◌≡◌ {A = Record} (record { kind = k; base = b; picture = p; text_box = t; window = w; alignment = a }) r
by_fields r k b p t w a ek eb ep et ew ea = rw (ek, eb, ep, et, ew, ea)

-- what the kind has, at OWN
own_back : {w : List ℕ} (r : Record) (k : Kind) → r.kind ≡ k → TypedWords r → OthersBlank k r → Holds w 1 (base_words r.base) → Holds w 62 (own_words k r) → record_by k w ≡ r
unfolding record_by own_words
own_back r Pan1 e t (p, x, n, a) b o = by_fields r _ _ _ _ _ _ (sym e) (base_back r.base t.fields.base t.name t.user b) (sym p) (sym x) (sym n) (sym a)
own_back r Pic1 e t (x, n, a) b o = by_fields r _ _ _ _ _ _ (sym e) (base_back r.base t.fields.base t.name t.user b) (picture_back r.picture t.fields.picture o) (sym x) (sym n) (sym a)
own_back r Txt1 e t (p, n, a) b o = by_fields r _ _ _ _ _ _ (sym e) (base_back r.base t.fields.base t.name t.user b) (sym p) (text_box_back r.text_box t.fields.text_box t.lines o) (sym n) (sym a)
own_back r Wnd1 e t (p, x, a) b o = by_fields r _ _ _ _ _ _ (sym e) (base_back r.base t.fields.base t.name t.user b) (sym p) (sym x) (window_back r.window t.fields.window t.frames t.quads o) (sym a)
own_back r Ali1 e t (p, x, n) b o = by_fields r _ _ _ _ _ _ (sym e) (base_back r.base t.fields.base t.name t.user b) (sym p) (sym x) (sym n) (pane_alignment_back r.alignment t.fields.alignment o)

-- where the words of r stand at the front of w, the record of w is r
pub record_back : {w : List ℕ} (r : Record) → TypedWords r → OthersBlank r.kind r → Holds w 0 (record_words r) → record_of w ≡ r
unfolding record_words
record_back {w} r t o a =
    let (k, rest) = split (kind_number r.kind ∷ []) (base_words r.base ++ own_words r.kind r) 1 refl a in
    let (b, own) = split (base_words r.base) (own_words r.kind r) 61 (base_long r.base t.fields.base.name t.fields.base.user) rest in
    let e = ap kind_of (nth (kind_number r.kind ∷ []) k 0 (kind_number r.kind) (omega arith) refl) ∙ kind_back r.kind in
    ap (λ (j : Kind). record_by j w) e ∙ own_back r r.kind refl t o b own

-- the words of a record, stored at the front
pub stands : (r : Record) (w : List ℕ) → TypedWords r → 116 ≤ length w → Holds (splice w 0 (record_words r)) 0 (record_words r)
stands r w t h =
    let k = record_long r t.fields.base.name t.fields.base.user in
    record {
      before = [];
      after = drop (0 + length (record_words r)) w;
      whole = splice_cut w 0 (record_words r) (omega arith);
      place = refl;
    }

-- THE LAW: stored by a read into a record's words, and taken from them by a write, a record is the same
pub handed_back : (r : Record) (w : List ℕ) → TypedWords r → OthersBlank r.kind r → 116 ≤ length w → record_of (splice w 0 (record_words r)) ≡ r
handed_back r w t o h = record_back r t o (stands r w t h)
