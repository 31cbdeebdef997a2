-- A whole text box, with its label as it stands in the buffer.
use mathlib.Core.Path.{◌≡◌, refl, ap, subst, ◌∙◌}
use Prim.Native.Nat.{ℕ, ◌+◌, ◌-◌, ◌≤◌, ◌<◌}
use native.Mathlib.Omega.{arith}
use mathlib.Core.Bool.{Bool, true, false}
use mathlib.Core.List.{List}
use lib.ListN.{length}
use lib.Dec.{lit≤, eqb}
use Rattle.core_read.specs.Taken.{sought, Place}
use Rattle.core_read.specs.Taken as core
use Rattle.core_read.specs.declared.cursor.ByteOrder.{ByteOrder}
use Rattle.core_read.specs.declared.cursor.Cursor.{Cursor}
use Rattle.core_read.proofs.Cursors.{pos_advanced}
use Rattle.core_read.proofs.Runs.{cleared}
use Rattle.text_box_fixed.specs.Fixed.{head_taken, font_taken, shadow_taken}
use Rattle.text_box_parts.specs.Parts.{place_of, text_taken, label_at, label_taken, lines_taken, per_character_checked}
use Rattle.text_box_read.specs.TextBox.{assembled, text_box_taken, text_box_units, text_box_lines}
use Rattle.text_box_caption.specs.Caption.{label_of}
use Rattle.reach.specs.Agrees.{Agrees}
use Rattle.reach.proofs.Steps.{Leads, Reading, Owns, Owned, Home, told, so, after, on, took_covers, any, none, owns_sought, seek_went}
use Rattle.reach.proofs.Labels.{LabelStands, label_went}
use Rattle.reach.proofs.TextBox.{head_went, font_went, shadow_went, text_by, lines_by}
use Rattle.std.specs.Prelude.{Ok}

-- w fixed bytes, and after them parts, each of which leaves the run where the fixed bytes end, at h
record Parted (w h : ℕ) (d c : Cursor) : Type 0 where
  covers : c.pos + w ≤ d.reach
  home : c.pos + w ≡ h → d.pos ≡ h

fixed_then : {lo r n w : ℕ} {p : Place} {d : Cursor} {X : Type 0} (h : ℕ) → 0 < w → Reading lo r n w p d X → Leads lo r n (Parted w h d) p d X
fixed_then {w = w} {d = d} h z x =
    let e = x.how.reads in
    told x (Parted w h d) (record { covers = took_covers z x; home = λ k. ap (λ (c : Cursor). c.pos) e ∙ pos_advanced x.from w ∙ k })

part_then : {lo r n w h : ℕ} {p q : Place} {d : Cursor} {X Y : Type 0} (y : Home lo r n h q d Y) → Leads lo r n (Parted w h y.from) p y.from X → Leads lo r n (Parted w h d) p d (X × Y)
part_then {w = w} {h = h} {d = d} y x = after y x (Parted w h d) (record { covers = omega (arith, x.how.covers, y.grows); home = λ k. y.how (x.how.home k) })

box_ends : (body : ℕ) (c d : Cursor) → Parted 84 (body + 160) d c → Owns body 160 true d c
box_ends body c d x = owns_sought body 160 c d (λ h.
    let end : d.pos ≡ body + 160 = x.home (omega (arith, h)) in
    (omega (arith, x.covers, h), omega (arith, x.covers, h, end)))

module _ (lo r : ℕ) (s s' : List ℕ) (a : Agrees lo r s s') where
  -- with its bytes
  part_went : (body offset : ℕ) → lo ≤ body - 8 → (b : Bool) → eqb offset 0 ≡ b → (p : Place) (d : Cursor) → (label_taken s p body offset).then ≡ Ok d
      → Home lo r (length s) (body + 160) p d ((label_taken s' p body offset ≡ label_taken s p body offset)
      × (label_of s' (label_taken s p body offset).value ≡ label_of s (label_taken s p body offset).value))
  unfolding label_taken label_at
  part_went body offset l true f p d e = none _ (λ (c : Cursor). c.pos ≡ body + 160 → d.pos ≡ body + 160) (rw f at e) (λ k. k) (rw f (refl, refl))
  part_went body offset l false f p d e =
      let to : ℕ = place_of body offset in
      let q : Place = sought s p to in
      let w₃ = seek_went lo r s s' a (body + 160) (omega arith) (core.label_taken s q).then d (rw f at e) in
      let w₂ = label_went lo r s s' a q w₃.from w₃.here in
      let w₁ = seek_went lo r s s' a to (omega arith) p w₂.from w₂.here in
      so (after w₃ (any w₂ w₁) (λ (c : Cursor). c.pos ≡ body + 160 → d.pos ≡ body + 160) (λ k. w₃.how.0)) (λ u. (
        rw (f, u.0.0, u.0.1.0, u.1),
        rw f (subst (λ (k : ℕ). LabelStands s s' k (length (core.label_taken s q).value)) w₁.how.0 (u.0.1.1 w₂.from w₂.here)),
      ))

  -- with its units, lines and label
  pub text_box_went : (order : ByteOrder) (body : ℕ) → lo ≤ body - 8 → (p : Place) (d : Cursor) → (text_box_taken order s p body).then ≡ Ok d
      → Owned lo r (length s) body 160 true p d ((text_box_taken order s' p body ≡ text_box_taken order s p body)
      × (label_of s' (text_box_taken order s p body).value.text_box.label ≡ label_of s (text_box_taken order s p body).value.text_box.label)
      × (text_box_units order s' (text_box_taken order s p body).value ≡ text_box_units order s (text_box_taken order s p body).value)
      × (text_box_lines order s' (text_box_taken order s p body).value ≡ text_box_lines order s (text_box_taken order s p body).value))
  unfolding text_box_taken assembled per_character_checked
  text_box_went order body l p d e =
      let head = head_taken order s p in
      let font = font_taken order s head.then in
      let shadow = shadow_taken order s font.then in
      let line : Bool = head.value.word.flags.is_line_transform in
      let found = text_taken order s shadow.then body font.value.text_offset head.value.text_length in
      let name = label_taken s found.then body font.value.label_offset in
      let table = lines_taken order s name.then body line shadow.value.line_offset in
      let k = (cleared table.then _ _ d e).0 in
      let w₆ = lines_by lo r s s' a order body shadow.value.line_offset line l _ refl name.then d k in
      let w₅ = part_went body font.value.label_offset l _ refl found.then w₆.from w₆.here in
      let w₄ = text_by lo r s s' a order body font.value.text_offset head.value.text_length l _ refl shadow.then w₅.from w₅.here in
      let w₃ = shadow_went lo r s s' a order font.then w₄.from w₄.here in
      let w₂ = font_went lo r s s' a order head.then w₃.from w₃.here in
      let w₁ = head_went lo r s s' a order p w₂.from w₂.here in
      let z = part_then w₆ (part_then w₅ (part_then w₄ (fixed_then (body + 160) (lit≤ tt) (on w₃ (on w₂ w₁))))) in
      so (told z (Owns body 160 true d) (box_ends body z.from d z.how))
      (λ u. (rw (u.0.0.0.0.0, u.0.0.0.0.1, u.0.0.0.1, u.0.0.1.0, u.0.1.0, u.1.0), u.0.1.1, u.0.0.1.1, u.1.1))
