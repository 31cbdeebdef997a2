-- A text box that a write lets through is read back, anywhere in a buffer.
use mathlib.Core.Path.{◌≡◌, refl, sym, ap, ◌∙◌, subst}
use Prim.Native.Nat.{ℕ, zero, suc, ◌+◌, ◌*◌, ◌/◌, ◌^◌, ◌≤◌, ◌<◌}
use native.Mathlib.Nat.{add-zero}
use native.Mathlib.Omega.{arith}
use mathlib.Core.Bool.{Bool, true, false}
use mathlib.Core.List.{List, [], ◌∷◌, ◌++◌}
use lib.ListN.{length, get_or, length-replicate, replicate}
use lib.Dec.{eqb}
use borrow.Author.Tests.{ne_eqb}
use Rattle.utf8.proofs.Tests.{and_none}
use Rattle.core_read.specs.Bytes.{bytes_of, bytes_of_all, padding}
use Rattle.core_read.specs.Taken.{start, advanced, moved, sought}
use Rattle.core_read.specs.Taken.{Taken}
use Rattle.core_read.specs.Lists.{numbers_taken, numbers_at}
use Rattle.core_checks.specs.Checks.{unless_refused}
use Rattle.core_read.specs.declared.cursor.ByteOrder.{ByteOrder}
use Rattle.core_read.specs.declared.cursor.Cursor.{Cursor}
use Rattle.core_read.proofs.Numbers.{length_bytes}
use Rattle.core_read.proofs.Cursors.{pos_start, pos_advanced, pos_moved, advanced_zero, advanced_more, reach_moved, reach_covers, reach_within}
use Rattle.core_read.proofs.Runs.{seek_to}
use Rattle.core_read.proofs.Here.{numbers_start}
use Rattle.core_read.proofs.Back.{Holds, split, holds_fits, length_all, number_back, label_back}
use Rattle.ui2d.proofs.Parts.{Fits, numbers_at_lem}
use Rattle.text_box_parts.specs.declared.Text.{Text}
use Rattle.text_box_parts.specs.declared.Text.TheVariants as text
use Rattle.text_box_parts.specs.declared.parts.TextFound.{TextFound}
use Rattle.text_box_parts.specs.declared.parts.LinesFound.{LinesFound}
use Rattle.text_box_parts.specs.Parts.{place_of, Part, absent, present, text_at, text_taken, label_at, label_taken, lines_at, lines_taken, column, Label, LineTable}
use Rattle.text_box_write.specs.Written.{text_offset, part_offset, text_width, label_width, line_width, encode_text, encode_label, encode_lines}
use Rattle.text_box_write.proofs.Columns.{length_column}
use Rattle.text_box.proofs.Cleared.{GoodText, GoodLabel, GoodLines}
use Rattle.std.specs.Prelude.{None, Ok, Some}

-- ---- numbers of a list that fit w bytes each

abbrev pub Below : ℕ → List ℕ → Type 0
Below w l = (k : ℕ) → get_or l k 0 < 256 ^ w

pub fits : (w : ℕ) (l : List ℕ) → Below w l → Fits w l
fits w [] h = tt
fits w (v ∷ l) h = (h 0, fits w l (λ k. h (suc k)))

pub fits_column : (w : ℕ) (l : List ℕ) (k n : ℕ) → Below w l → Fits w (column l k n)
unfolding column
fits_column w l k zero h = tt
fits_column w l k (suc n) h = (h k, fits_column w l (k + 2) n h)

-- ---- what a part that was written reads as

abbrev pub read_text : Part → Text
read_text absent = text.Absent
read_text (present u) = text.Present

abbrev pub text_place : ℕ → Part → ℕ
text_place body absent = 0
text_place body (present u) = place_of body 168

-- of a part that was aligned from a place
abbrev pub read_label : ℕ → Part → Label
read_label at absent = None
read_label at (present bytes) = Some (record { place = at + padding at; length = length bytes })

abbrev pub read_table : Part → LineTable
read_table absent = None
read_table (present l) = Some (length l / 2)

abbrev pub table_place : ℕ → Part → ℕ
table_place at absent = 0
table_place at (present l) = at + padding at

-- the bounds of its numbers
abbrev pub Bounded : ℕ → Part → Type 0
Bounded w absent = Unit {0}
Bounded w (present l) = Below w l

-- flag bit 6 is set for a line table
abbrev pub Set : Part → Bool → Type 0
Set absent line = Unit {0}
Set (present l) line = line ≡ true

-- ---- where the run stands after a part: a present one is sought, read, and left for the end of the fixed bytes

abbrev visited : ℕ → Cursor → ℕ → ℕ → Cursor
visited body d at w = moved (advanced (moved d at) w) (body + 160)

abbrev pub after_text : ℕ → Cursor → Part → Cursor
after_text body d absent = d
after_text body d (present u) = visited body d (place_of body 168) (2 * length u)

-- of a part that was aligned from a place
abbrev pub after_label : ℕ → Cursor → ℕ → Part → Cursor
after_label body d at absent = d
after_label body d at (present bytes) = visited body d (at + padding at) (length bytes + 1)

abbrev pub after_lines : ℕ → Cursor → ℕ → Part → Cursor
after_lines body d at absent = d
after_lines body d at (present l) = visited body d (at + padding at) (1 + (4 * (length l / 2) + 4 * (length l / 2)))

-- it stands where it stood
module _ (body : ℕ) (d : Cursor) (e : d.pos ≡ body + 160) where
  pub pos_text : (found : Part) → (after_text body d found).pos ≡ body + 160
  pos_text absent = e
  pos_text (present u) = pos_moved _ _

  pub pos_label : (at : ℕ) (name : Part) → (after_label body d at name).pos ≡ body + 160
  pos_label at absent = e
  pos_label at (present bytes) = pos_moved _ _

  pub pos_lines : (at : ℕ) (table : Part) → (after_lines body d at table).pos ≡ body + 160
  pos_lines at absent = e
  pos_lines at (present l) = pos_moved _ _

-- and has looked to the end of the part
reach_visited : (body : ℕ) (d : Cursor) (at w : ℕ) → 0 < w → d.reach ≤ at + w → (visited body d at w).reach ≡ at + w
reach_visited body d at w h k =
    let m : Cursor = moved d at in
    let p = pos_moved d at in
    let most = reach_within m w (at + w) (omega (arith, reach_moved d at)) (omega (arith, p)) in
    reach_moved (advanced m w) (body + 160) ∙ omega (arith, most, reach_covers m w h, p)

module _ (body : ℕ) (d : Cursor) (at : ℕ) (e : d.reach ≡ at) where
  pub reach_text : at ≡ place_of body 168 → (found : Part) → (after_text body d found).reach ≡ at + text_width found
  reach_text f absent = omega (arith, e)
  reach_text f (present []) = reach_moved _ _ ∙ rw advanced_zero (reach_moved d (place_of body 168) ∙ omega (arith, e))
  reach_text f (present (v ∷ u)) = reach_visited body d (place_of body 168) (2 * suc (length u)) (omega arith) (omega (arith, e, f)) ∙ omega (arith, f)

  pub reach_label : (name : Part) → (after_label body d at name).reach ≡ at + label_width at name
  reach_label absent = omega (arith, e)
  reach_label (present bytes) = reach_visited body d (at + padding at) (length bytes + 1) (omega arith) (omega (arith, e)) ∙ omega arith

  pub reach_lines : (table : Part) → (after_lines body d at table).reach ≡ at + line_width at table
  reach_lines absent = omega (arith, e)
  reach_lines (present l) = reach_visited body d (at + padding at) _ (omega arith) (omega (arith, e)) ∙ omega arith

-- ---- the numbers at a place that was sought

module _ (s : List ℕ) where
  there : (d : Cursor) (to : ℕ) (xs : List ℕ) → Holds s to xs → Holds s (moved d to).pos xs
  there d to xs a = rw pos_moved a

  -- n numbers where they were put
  numbers_from : (order : ByteOrder) (w : ℕ) (d : Cursor) (l : List ℕ) → Fits w l → Holds s d.pos (bytes_of_all order w l)
      → ◌≡◌ {A = Taken (List ℕ)} (numbers_taken order w (length l) s (Ok d)) (record { value = l; then = Ok (advanced d (w * length l)) })
  numbers_from order w d l f a =
      let b : Holds s (d.pos + 0) (bytes_of_all order w l) = rw add-zero a in
      let z : 0 + w * length l ≡ w * length l = omega arith in
      rw (advanced_zero, z) at (numbers_at_lem d order w 0 l f b)

  -- a column of n of them
  pub table_column : (order : ByteOrder) (d : Cursor) (l : List ℕ) (k n : ℕ) → Below 4 l → Holds s d.pos (bytes_of_all order 4 (column l k n))
      → ◌≡◌ {A = Taken (List ℕ)} (numbers_taken order 4 n s (Ok d)) (record { value = column l k n; then = Ok (advanced d (4 * n)) })
  table_column order d l k n b a =
      subst (λ (m : ℕ). ◌≡◌ {A = Taken (List ℕ)} (numbers_taken order 4 m s (Ok d)) (record { value = column l k n; then = Ok (advanced d (4 * m)) }))
      (length_column l k n) (numbers_from order 4 d (column l k n) (fits_column 4 l k n b) a)

  -- and so they stand there
  pub numbers_stand : (order : ByteOrder) (w at : ℕ) (l : List ℕ) → Fits w l → Holds s at (bytes_of_all order w l) → numbers_at order w (length l) s at ≡ l
  numbers_stand order w at l f a =
      let h : at + w * length l ≤ length s = rw (← length_all order w l) (holds_fits (bytes_of_all order w l) a) in
      let b : Holds s (start at).pos (bytes_of_all order w l) = rw pos_start a in
      sym (numbers_start order w (length l) s at h) ∙ ap (λ (t : Taken (List ℕ)). t.value) (numbers_from order w (start at) l f b)

-- ---- each part, from any cursor d

module _ (s : List ℕ) (order : ByteOrder) (body : ℕ) (d : Cursor) (low : 8 ≤ body) (fit : body + 160 ≤ length s) where
  home : (a : Cursor) → sought s (Ok a) (body + 160) ≡ Ok (moved a (body + 160))
  home a = seek_to s a (body + 160) (body + 160) refl fit

  pub text_back : (long : ℕ) (found : Part) → GoodText long found → Bounded 2 found → Holds s (place_of body 168) (encode_text order found)
      → ◌≡◌ {A = Taken TextFound} (text_taken order s (Ok d) body (text_offset found) long)
      (record { value = record { text = read_text found; place = text_place body found }; then = Ok (after_text body d found) })
  unfolding text_taken text_at unless_refused
  text_back long absent g b h = refl
  text_back long (present u) g b h =
      let l : place_of body 168 ≤ length s = omega (arith, holds_fits (bytes_of_all order 2 u) h) in
      rw (
        ← g.0,
        seek_to s d (place_of body 168) (place_of body 168) refl l,
        numbers_from s order 2 (moved d (place_of body 168)) u (fits 2 u b) (there s d (place_of body 168) (bytes_of_all order 2 u) h),
        g.1,
        home (advanced (moved d (place_of body 168)) (2 * length u)),
      )

  module _ (at end : ℕ) (w : at ≡ place_of body end) (pos : 0 < end) where
    go : at + padding at ≤ length s → sought s (Ok d) (place_of body (end + padding at)) ≡ Ok (moved d (at + padding at))
    go h = seek_to s d (place_of body (end + padding at)) (at + padding at) (omega arith) h

    moves : place_of body (end + padding at) ≡ at + padding at
    moves = omega arith

    some : eqb (end + padding at) 0 ≡ false
    some = ne_eqb (end + padding at) 0 (λ z. omega arith)

    pub label_read : (name : Part) → GoodLabel name → Holds s at (encode_label at name)
        → ◌≡◌ {A = Taken Label} (label_taken s (Ok d) body (part_offset at end name)) (record { value = read_label at name; then = Ok (after_label body d at name) })
    unfolding label_taken label_at
    label_read absent g h = refl
    label_read (present bytes) g h =
        let k : Holds s (at + padding at) (bytes ++ (0 ∷ [])) = (split (replicate (padding at) 0) (bytes ++ (0 ∷ [])) (padding at) (length-replicate (padding at) 0) h).1 in
        let l : at + padding at ≤ length s = omega (arith, holds_fits (bytes ++ (0 ∷ [])) k) in
        rw (
          some,
          go l,
          moves,
          label_back (moved d (at + padding at)) bytes g.0 (there s d (at + padding at) (bytes ++ (0 ∷ [])) k),
          home (advanced (moved d (at + padding at)) (length bytes + 1)),
        )

    pub lines_read : (line : Bool) (table : Part) → GoodLines table → Set table line → Bounded 4 table → Holds s at (encode_lines order at table)
        → ◌≡◌ {A = Taken LinesFound} (lines_taken order s (Ok d) body line (part_offset at end table))
        (record { value = record { table = read_table table; place = table_place at table }; then = Ok (after_lines body d at table) })
    unfolding lines_taken lines_at
    lines_read line absent g b f h = rw (and_none line)
    lines_read line (present l) g b f h =
        let n : ℕ = length l / 2 in
        let o : List ℕ = bytes_of_all order 4 (column l 0 n) in
        let v : List ℕ = bytes_of_all order 4 (column l 1 n) in
        let k : Holds s (at + padding at) (bytes_of order 1 n ++ (o ++ v)) = (split (replicate (padding at) 0) (bytes_of order 1 n ++ (o ++ v)) (padding at) (length-replicate (padding at) 0) h).1 in
        let m : Cursor = moved d (at + padding at) in
        let j = split (bytes_of order 1 n) (o ++ v) 1 (length_bytes order 1 n) (there s d (at + padding at) (bytes_of order 1 n ++ (o ++ v)) k) in
        let i = split o v (4 * n) (length_all order 4 (column l 0 n) ∙ ap (λ (z : ℕ). 4 * z) (length_column l 0 n)) j.1 in
        let r : at + padding at ≤ length s = omega (arith, holds_fits (bytes_of order 1 n ++ (o ++ v)) k) in
        let c₁ : Cursor = advanced m 1 in
        let c₂ : Cursor = advanced c₁ (4 * n) in
        let a₀ = number_back m order 1 n (omega (arith, g.1)) j.0 in
        let a₁ = table_column s order c₁ l 0 n f (rw pos_advanced i.0) in
        let a₂ = table_column s order c₂ l 1 n f (rw (pos_advanced c₁ (4 * n), pos_advanced m 1) i.1) in
        rw (
          b,
          some,
          go r,
          moves,
          a₀,
          a₁,
          a₂,
          home (advanced c₂ (4 * n)),
          advanced_more c₁ (4 * n) (4 * n),
          advanced_more m 1 (4 * n + 4 * n),
        )
