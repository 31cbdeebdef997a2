-- What a run that came through tells: where it began, and that the bytes it read are there.
use Rattle.core_read.specs.Taken.{cursor_of}
use mathlib.Core.Path.{◌≡◌, refl, sym, ap, ◌∙◌}
use mathlib.Core.Bool.{Bool, true, false, cond}
use mathlib.Core.List.{List}
use Prim.Native.Nat.{ℕ, zero, suc, ◌+◌, ◌*◌, ◌≤◌}
use native.Mathlib.Nat.{mul-suc, mul-zero}
use native.Mathlib.Omega.{arith}
use lib.ListN.{length}
use lib.Dec.{leb}
use borrow.Author.Tests.{leb-true}
use Rattle.core_read.specs.Taken.{advanced, number_taken, Place}
use Rattle.core_read.specs.Taken.{Taken}
use Rattle.core_read.specs.Lists.{numbers_taken}
use Rattle.core_read.specs.declared.error.Refusal.{Refusal}
use Rattle.core_read.specs.declared.cursor.ByteOrder.{ByteOrder}
use Rattle.core_read.specs.declared.cursor.Cursor.{Cursor}
use Rattle.core_read.proofs.Cursors.{pos_advanced}
use Rattle.core_read.proofs.Lists.{number_here, numbers_stay}
use Rattle.ui2d.specs.Parts.{colors_taken, color_taken}
use Rattle.picture_fields.specs.Picture.{shape_taken, picture_taken, quads_of, Measured}
use Rattle.picture_fields.proofs.Run.{shape_stays}
use Rattle.picture_fields.specs.declared.PictureFound.{PictureFound}
use Rattle.std.specs.Prelude.{Err, Ok}

-- ---- any run

never : (why : Refusal) (d : Cursor) → Err why ≡ Ok d → ⊥
never why d e = let z : ◌≡◌ {A = ℕ} 0 1 = cc in omega arith

-- a step that a refusal passes: where it ends at a cursor it began at one
pub from_at : (step : Place → Place) → ((why : Refusal) → step (Err why) ≡ Err why) → (p : Place) (d : Cursor) → step p ≡ Ok d → p ≡ Ok (cursor_of p)
from_at step h (Ok c) d e = refl
from_at step h (Err why) d e = absurd (never why d (sym (h why) ∙ e))

module _ (order : ByteOrder) (w : ℕ) (s : List ℕ) where
  pub number_stays : (why : Refusal) → (number_taken order w s (Err why)).then ≡ Err why
  unfolding number_taken
  number_stays why = refl

  tested : (t : Bool) (a : Taken ℕ) (v : ℕ) (why : Refusal) (d : Cursor) → (cond t a (record { value = v; then = Err why })).then ≡ Ok d → t ≡ true
  tested true a v why d e = refl
  tested false a v why d e = cc

  -- a number's bytes are there, and it ends after them
  pub number_fits : (c d : Cursor) → (number_taken order w s (Ok c)).then ≡ Ok d → (c.pos + w ≤ length s) × (d ≡ advanced c w)
  unfolding number_taken
  number_fits c d e =
      let h : c.pos + w ≤ length s = leb-true _ _ (tested (leb (c.pos + w) (length s)) _ _ _ d e) in
      let k : Ok (advanced c w) ≡ Ok d = ap (λ (t : Taken ℕ). t.then) (sym (number_here order w s c h)) ∙ e in
      (h, cc)

  pub number_end : (p : Place) (d : Cursor) → (number_taken order w s p).then ≡ Ok d → d.pos ≤ length s
  number_end (Ok c) d e = let (h, k) = number_fits c d e in rw (k, pos_advanced) h
  number_end (Err why) d e = absurd (never why d (sym (number_stays why) ∙ e))

  -- the bytes of n numbers are there
  pub numbers_fit : (n : ℕ) (c d : Cursor) → c.pos ≤ length s → (numbers_taken order w n s (Ok c)).then ≡ Ok d → c.pos + w * n ≤ length s
  unfolding numbers_taken
  numbers_fit zero c d h e = omega (arith, mul-zero w)
  numbers_fit (suc n) c d h e =
      let first : Place = (number_taken order w s (Ok c)).then in
      let k : first ≡ Ok (cursor_of first) = from_at (λ (q : Place). (numbers_taken order w n s q).then) (numbers_stay order w s n) first d e in
      let (f, m) = number_fits c (cursor_of first) k in
      let rest : (numbers_taken order w n s (Ok (advanced c w))).then ≡ Ok d = ap (λ (q : Place). (numbers_taken order w n s q).then) (sym (k ∙ ap Ok m)) ∙ e in
      let l : (advanced c w).pos + w * n ≤ length s = numbers_fit n (advanced c w) d (rw pos_advanced f) rest in
      omega (arith, pos_advanced c w, l, mul-suc w n)

  -- refused or not, as many numbers as were asked for
  length_taken : (n : ℕ) (p : Place) → length (numbers_taken order w n s p).value ≡ n
  unfolding numbers_taken
  length_taken zero p = refl
  length_taken (suc n) p = ap suc (length_taken n (number_taken order w s p).then)

-- ---- a picture

pub length_quads : (order : ByteOrder) (s : List ℕ) (t : PictureFound) → length (quads_of order s t) ≡ 8 * t.picture.quad_count
unfolding quads_of
length_quads order s t = length_taken order 4 s (8 * t.picture.quad_count) (Ok t.quads)

-- a refused run stays so
pub picture_stays : (order : ByteOrder) (s : List ℕ) (why : Refusal) → (picture_taken order s (Err why)).then ≡ Err why
unfolding picture_taken colors_taken color_taken number_taken numbers_taken shape_taken
picture_stays order s why = refl

-- k numbers after a byte, and what follows them
module _ (order : ByteOrder) (s : List ℕ) (before : Place) (byte k : ℕ) (d : Cursor) where
  abbrev place : Place
  place = (number_taken order 1 s before).then

  numbers_came : (shape_taken order s (numbers_taken order 4 k s place).then byte).then ≡ Ok d → (place ≡ Ok (cursor_of place)) × ((cursor_of place).pos + 4 * k ≤ length s)
  numbers_came e =
      let after : Place = (numbers_taken order 4 k s place).then in
      let h : after ≡ Ok (cursor_of after) = from_at (λ (q : Place). (shape_taken order s q byte).then) (shape_stays order s byte) after d e in
      let f : place ≡ Ok (cursor_of place) = from_at (λ (q : Place). (numbers_taken order 4 k s q).then) (numbers_stay order 4 s k) place (cursor_of after) h in
      let g : (numbers_taken order 4 k s (Ok (cursor_of place))).then ≡ Ok (cursor_of after) = ap (λ (q : Place). (numbers_taken order 4 k s q).then) (sym f) ∙ h in
      (f, numbers_fit order 4 s k (cursor_of place) (cursor_of after) (number_end order 1 s before (cursor_of place) f) g)

-- a read that came through has its quads there
pub came_through : (order : ByteOrder) (s : List ℕ) (p : Place) (d : Cursor) (n : ℕ) → (picture_taken order s p).then ≡ Ok d
    → 2040 ≤ n → Measured s (picture_taken order s p).value n
unfolding picture_taken
came_through order s p d n e room =
    let t : PictureFound = (picture_taken order s p).value in
    let (h, f) = numbers_came order s _ _ (8 * t.picture.quad_count) d e in
    record { there = omega (arith, f); room = room }
