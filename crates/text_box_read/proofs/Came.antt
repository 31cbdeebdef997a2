-- A read that came through: its numbers stand in the bytes.
use mathlib.Core.Path.{◌≡◌, refl, sym, ap, ◌∙◌}
use mathlib.Core.List.{List}
use mathlib.Core.Bool.{Bool, true, false, cond, not, ◌&&◌}
use Prim.Native.Nat.{ℕ, ◌+◌, ◌*◌, ◌/◌, ◌≤◌}
use native.Mathlib.Omega.{arith}
use lib.ListN.{length}
use lib.Dec.{eqb}
use Rattle.core_read.specs.Taken.{moved, advanced, sought, stop_if, number_taken, u8_taken, Place}
use Rattle.core_read.specs.Taken.{Taken}
use Rattle.core_read.specs.Taken as core
use Rattle.core_read.specs.Lists.{numbers_taken}
use Rattle.core_read.specs.declared.error.Refusal.{Refusal}
use Rattle.core_read.specs.declared.cursor.ByteOrder.{ByteOrder}
use Rattle.core_read.specs.declared.cursor.Cursor.{Cursor}
use Rattle.core_read.proofs.Cursors.{pos_advanced, pos_moved}
use Rattle.core_read.proofs.Runs.{cleared, seek_got}
use Rattle.core_read.proofs.Lists.{number_here, numbers_here}
use Rattle.flags.specs.Fields.{text_flags_of}
use Rattle.ui2d.specs.Parts.{vector2_taken, color_taken}
use Rattle.text_box_fixed.specs.Fixed.{head_taken, font_taken, shadow_taken}
use Rattle.text_box_parts.specs.declared.Text.TheVariants as text
use Rattle.text_box_parts.specs.declared.parts.TextFound.{TextFound}
use Rattle.text_box_parts.specs.declared.parts.LinesFound.{LinesFound}
use Rattle.text_box_parts.specs.Parts.{place_of, text_at, text_taken, label_at, label_taken, lines_at, lines_taken, per_character_checked, Label}
use Rattle.text_box_read.specs.TextBox.{Standing}
use Rattle.text_box_read.specs.TextBox.{assembled, text_box_taken}
use Rattle.text_box_parts.proofs.Run.{came, no_came, sought_came, number_came, number_fits, numbers_came, numbers_fit, numbers_sought}
use Rattle.std.specs.Prelude.{Err, None, Ok, Some}

-- ---- text

text_at_came : (order : ByteOrder) (s : List ℕ) (p : Place) (at n end : ℕ) → came (text_at order s p at n end).then ≡ true
    → (came p ≡ true) × ((text_at order s p at n end).value.place + 2 * n ≤ length s)
unfolding text_at
text_at_came order s p at n end h =
    let u : came (numbers_taken order 2 n s (sought s p at)).then ≡ true = (sought_came s _ end h).0 in
    ((sought_came s p at (numbers_came order 2 n s _ u)).0, (numbers_sought order 2 n s p at u).1)

-- what a text that was taken from p tells
abbrev TextOk : List ℕ → Place → ℕ → Taken TextFound → Type 0
TextOk s p n t = (came p ≡ true) × (t.value.text ≡ text.Present → t.value.place + 2 * n ≤ length s)

text_either : (s : List ℕ) (p : Place) (n : ℕ) (b : Bool) (t : Taken TextFound) → (came t.then ≡ true → (came p ≡ true) × (t.value.place + 2 * n ≤ length s))
    → came (cond b (record { value = record { text = text.Absent; place = 0 }; then = p }) t).then ≡ true
    → TextOk s p n (cond b (record { value = record { text = text.Absent; place = 0 }; then = p }) t)
text_either s p n true t f h = (h, λ e. let z : ◌≡◌ {A = ℕ} 0 1 = cc in absurd (omega arith))
text_either s p n false t f h = ((f h).0, λ e. (f h).1)

text_came : (order : ByteOrder) (s : List ℕ) (p : Place) (body offset long : ℕ) → came (text_taken order s p body offset long).then ≡ true
    → TextOk s p (long / 2) (text_taken order s p body offset long)
unfolding text_taken
text_came order s p body offset long h =
    text_either s p (long / 2) (eqb offset 0) (text_at order s p (place_of body offset) (long / 2) (body + 160)) (text_at_came order s p _ _ _) h

-- ---- label

label_from : (s : List ℕ) (p : Place) → came (core.label_taken s p).then ≡ true → came p ≡ true
unfolding core.label_taken
label_from s (Ok c) h = refl
label_from s (Err why) h = h

label_at_came : (s : List ℕ) (p : Place) (at end : ℕ) → came (label_at s p at end).then ≡ true → came p ≡ true
unfolding label_at
label_at_came s p at end h = (sought_came s p at (label_from s _ (sought_came s _ end h).0)).0

label_either : (p : Place) (b : Bool) (name : Label) (t : Taken Label) → (came t.then ≡ true → came p ≡ true)
    → came (cond b (record { value = name; then = p }) t).then ≡ true → came p ≡ true
label_either p true name t f h = h
label_either p false name t f h = f h

label_came : (s : List ℕ) (p : Place) (body offset : ℕ) → came (label_taken s p body offset).then ≡ true → came p ≡ true
unfolding label_taken
label_came s p body offset h = label_either p (eqb offset 0) None (label_at s p (place_of body offset) (body + 160)) (label_at_came s p _ _) h

-- ---- line table

-- count, offsets and widths from a cursor on
table_fits : (order : ByteOrder) (s : List ℕ) (c : Cursor) (n : ℕ) → n ≡ (u8_taken order s (Ok c)).value
    → came (numbers_taken order 4 n s (numbers_taken order 4 n s (u8_taken order s (Ok c)).then).then).then ≡ true
    → c.pos + 1 + 8 * n ≤ length s
table_fits order s c n e h =
    let a = numbers_came order 4 n s _ h in
    let b = numbers_came order 4 n s _ a in
    let f : c.pos + 1 ≤ length s = number_fits order 1 s c b in
    let g : (u8_taken order s (Ok c)).then ≡ Ok (advanced c 1) = ap (λ (t : Taken ℕ). t.then) (number_here order 1 s c f) in
    let a₁ : came (numbers_taken order 4 n s (Ok (advanced c 1))).then ≡ true = sym (ap (λ (q : Place). came (numbers_taken order 4 n s q).then) g) ∙ a in
    let k : (advanced c 1).pos + 4 * n ≤ length s = numbers_fit order 4 n s (advanced c 1) (rw pos_advanced f) a₁ in
    let m : (numbers_taken order 4 n s (u8_taken order s (Ok c)).then).then ≡ Ok (advanced (advanced c 1) (4 * n)) =
    ap (λ (q : Place). (numbers_taken order 4 n s q).then) g ∙ ap (λ (t : Taken (List ℕ)). t.then) (numbers_here order 4 s n (advanced c 1) k) in
    let h₁ : came (numbers_taken order 4 n s (Ok (advanced (advanced c 1) (4 * n)))).then ≡ true = sym (ap (λ (q : Place). came (numbers_taken order 4 n s q).then) m) ∙ h in
    let o : (advanced (advanced c 1) (4 * n)).pos + 4 * n ≤ length s = numbers_fit order 4 n s (advanced (advanced c 1) (4 * n)) (rw pos_advanced k) h₁ in
    omega (arith, pos_advanced (advanced c 1) (4 * n), pos_advanced c 1)

-- what a line table that was taken from p tells
abbrev LinesOk : List ℕ → Place → Taken LinesFound → Type 0
LinesOk s p t = (came p ≡ true) × ((count : ℕ) → t.value.table ≡ Some count → t.value.place + 1 + 8 * count ≤ length s)

lines_at_came : (order : ByteOrder) (s : List ℕ) (p : Place) (at end : ℕ) → came (lines_at order s p at end).then ≡ true
    → LinesOk s p (lines_at order s p at end)
unfolding lines_at
lines_at_came order s (Err why) at end h =
    let a = (sought_came s _ end h).0 in
    let q = number_came order 1 s _ (numbers_came order 4 _ s _ (numbers_came order 4 _ s _ a)) in
    absurd (no_came (sought_came s (Err why) at q).0)
lines_at_came order s (Ok c) at end h =
    let a = (sought_came s _ end h).0 in
    let q = number_came order 1 s _ (numbers_came order 4 _ s _ (numbers_came order 4 _ s _ a)) in
    let l : at ≤ length s = (sought_came s (Ok c) at q).1 in
    let e : Ok (moved c at) ≡ sought s (Ok c) at = seek_got s (Ok c) at c refl l in (
      refl,
      λ count f.
          let v : count ≡ (u8_taken order s (sought s (Ok c) at)).value = cc in
          let t : (moved c at).pos + 1 + 8 * count ≤ length s =
          table_fits order s (moved c at) count (v ∙ ap (λ (x : Place). (u8_taken order s x).value) (sym e)) (rw (v, e) a) in
          omega (arith, pos_moved c at),
    )

lines_either : (s : List ℕ) (p : Place) (b : Bool) (t : Taken LinesFound) → (came t.then ≡ true → LinesOk s p t)
    → came (cond b t (record { value = record { table = None; place = 0 }; then = p })).then ≡ true
    → LinesOk s p (cond b t (record { value = record { table = None; place = 0 }; then = p }))
lines_either s p true t f h = f h
lines_either s p false t f h = (h, λ count e. let z : ◌≡◌ {A = ℕ} 0 1 = cc in absurd (omega arith))

lines_came : (order : ByteOrder) (s : List ℕ) (p : Place) (body : ℕ) (line : Bool) (offset : ℕ) → came (lines_taken order s p body line offset).then ≡ true
    → LinesOk s p (lines_taken order s p body line offset)
unfolding lines_taken
lines_came order s p body line offset h =
    lines_either s p (line && not (eqb offset 0)) (lines_at order s p (place_of body offset) (body + 160)) (lines_at_came order s p _ _) h

-- ---- THE WHOLE

pub text_box_came : (order : ByteOrder) (s : List ℕ) (p : Place) (body : ℕ) (c : Cursor) → (text_box_taken order s p body).then ≡ Ok c
    → Standing s (text_box_taken order s p body).value
unfolding text_box_taken assembled per_character_checked
text_box_came order s p body c e =
    let a = (cleared _ _ _ c e).0 in
    let l = lines_came order s _ body _ _ (ap came a) in
    let n = label_came s _ body _ l.0 in
    let t = text_came order s _ body _ _ n in
    record { units = t.1; lines = l.1 }

-- a run that was refused stays so
pub text_box_stays : (order : ByteOrder) (s : List ℕ) (why : Refusal) (body : ℕ) → (text_box_taken order s (Err why) body).then ≡ Err why
unfolding text_box_taken head_taken font_taken shadow_taken text_taken label_taken lines_taken per_character_checked stop_if number_taken vector2_taken color_taken text_flags_of
text_box_stays order s why body = refl
