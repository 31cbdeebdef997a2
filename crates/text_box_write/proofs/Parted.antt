-- The parts of a text box put one after the other: their room, and their bytes together.
use mathlib.Core.Path.{◌≡◌, refl, ap}
use mathlib.Core.List.{List}
use Prim.Native.Nat.{ℕ, ◌+◌, ◌≤◌}
use native.Mathlib.Omega.{arith}
use Rattle.std.specs.Prelude.{None, Some, MatchOption}
use Rattle.core_read.specs.Bytes.{padding}
use Rattle.core_write.specs.Puts.{Puts}
use Rattle.core_write.specs.declared.writer.Writer.{Writer}
use Rattle.core_write.proofs.Chain.{◌then◌, puts_as}
use Rattle.text_box_read.specs.declared.TextBoxPane.{TextBoxPane}
use Rattle.text_box_write.specs.declared.write.Layout.{Layout}
use Rattle.text_box_write.specs.Fixed.{encode_fixed}
use Rattle.text_box_parts.specs.Parts.{place_of, Part, Label, LineTable, text_part, label_part, line_part}
use Rattle.text_box_write.specs.Written.{part_offset, text_width, label_width, line_width, text_end, label_end, encode_text, encode_label, encode_lines, parts_length, parts_layout, parts_encoded, layout_of, text_box_length, encode_text_box}

-- the offset of a part, as the code takes it
module _ (at end r : ℕ) where
  pub label_offset : (label : Label) (bytes : List ℕ) → MatchOption label (r ≡ 0) (λ _. r ≡ end + padding at) → r ≡ part_offset at end (label_part label bytes)
  label_offset None bytes h = h
  label_offset (Some span) bytes h = h

  pub lines_offset : (table : LineTable) (l : List ℕ) → MatchOption table (r ≡ 0) (λ _. r ≡ end + padding at) → r ≡ part_offset at end (line_part table l)
  lines_offset None l h = h
  lines_offset (Some count) l h = h

module _ (body p n : ℕ) (found name table : Part) (l : 8 ≤ body) (e : p ≡ body + 76) where
  at_label : (r : ℕ) → r ≡ p + 84 + text_width found → r ≡ place_of body (text_end found)
  at_label r f = omega arith

  at_lines : (r t : ℕ) → r ≡ p + 84 + text_width found → t ≡ r + label_width r name → t ≡ place_of body (label_end body found name)
  at_lines r t f g = let h : t ≡ r + label_width (place_of body (text_end found)) name = rw (← at_label r f) g in omega arith

  -- room for the whole is room for each
  module _ (room : p + parts_length body found name table ≤ n) where
    room_fixed : p + 84 ≤ n
    room_fixed = omega arith

    room_text : (q : ℕ) → q ≡ p + 84 → q + text_width found ≤ n
    room_text q f = omega arith

    room_label : (q r : ℕ) → q ≡ p + 84 → r ≡ q + text_width found → r + label_width r name ≤ n
    room_label q r f g =
        let k : r ≡ place_of body (text_end found) = at_label r (omega arith) in
        let h : label_width r name ≡ label_width (place_of body (text_end found)) name = ap (λ (i : ℕ). label_width i name) k in
        omega arith

    room_lines : (q r t : ℕ) → q ≡ p + 84 → r ≡ q + text_width found → t ≡ r + label_width r name → t + line_width t table ≤ n
    room_lines q r t f g h =
        let k : r ≡ place_of body (text_end found) = at_label r (omega arith) in
        let j : label_width r name ≡ label_width (place_of body (text_end found)) name = ap (λ (i : ℕ). label_width i name) k in
        let m : t ≡ place_of body (label_end body found name) = at_lines r t (omega arith) h in
        let o : line_width t table ≡ line_width (place_of body (label_end body found name)) table = ap (λ (i : ℕ). line_width i table) m in
        omega arith

-- the four puts are the one
parts_puts : {a b c d e : Writer} (x : TextBoxPane) (body : ℕ) (found name table : Part) (plan : Layout)
    → 8 ≤ body → a.place ≡ body + 76 → plan ≡ parts_layout body found name table
    → Puts a b 84 (λ order. encode_fixed order x plan.text plan.label plan.lines)
    → Puts b c (text_width found) (λ order. encode_text order found)
    → Puts c d (label_width c.place name) (λ order. encode_label c.place name)
    → Puts d e (line_width d.place table) (λ order. encode_lines order d.place table)
    → Puts a e (parts_length body found name table) (λ order. parts_encoded order body x found name table)
parts_puts {a} {c = c} {d = d} x body found name table plan l at f fixed_put text_put label_put lines_put =
    let g : c.place ≡ a.place + 84 + text_width found = omega (arith, fixed_put.put.place, text_put.put.place) in
    let k = at_label body a.place 0 found name table l at c.place g in
    let m = at_lines body a.place 0 found name table l at c.place d.place g label_put.put.place in
    puts_as refl (λ order. ap (λ (i : Layout). encode_fixed order x i.text i.label i.lines) f) fixed_put
    then text_put
    then puts_as (ap (λ (i : ℕ). label_width i name) k) (λ order. ap (λ (i : ℕ). encode_label i name) k) label_put
    then puts_as (ap (λ (i : ℕ). line_width i table) m) (λ order. ap (λ (i : ℕ). encode_lines order i table) m) lines_put

-- ---- the same of a text box

module _ (body p n : ℕ) (x : TextBoxPane) (units lines label : List ℕ) (l : 8 ≤ body) (e : p ≡ body + 76)
    (room : p + text_box_length body x units lines label ≤ n) where
  pub need_fixed : p + 84 ≤ n
  unfolding text_box_length
  need_fixed = room_fixed body p n (text_part x.text units) (label_part x.label label) (line_part x.line_table lines) l e room

  pub need_text : (q m : ℕ) → m ≡ n → q ≡ p + 84 → q + text_width (text_part x.text units) ≤ m
  unfolding text_box_length
  need_text q m k f = rw k (room_text body p n (text_part x.text units) (label_part x.label label) (line_part x.line_table lines) l e room q f)

  pub need_label : (q r m : ℕ) → m ≡ n → q ≡ p + 84 → r ≡ q + text_width (text_part x.text units) → r + label_width r (label_part x.label label) ≤ m
  unfolding text_box_length
  need_label q r m k f g = rw k (room_label body p n (text_part x.text units) (label_part x.label label) (line_part x.line_table lines) l e room q r f g)

  pub need_lines : (q r t m : ℕ) → m ≡ n → q ≡ p + 84 → r ≡ q + text_width (text_part x.text units) → t ≡ r + label_width r (label_part x.label label)
      → t + line_width t (line_part x.line_table lines) ≤ m
  unfolding text_box_length
  need_lines q r t m k f g h =
      rw k (room_lines body p n (text_part x.text units) (label_part x.label label) (line_part x.line_table lines) l e room q r t f g h)

pub whole_puts : {a b c d e : Writer} (x : TextBoxPane) (body : ℕ) (units lines label : List ℕ) (plan : Layout)
    → 8 ≤ body → a.place ≡ body + 76 → plan ≡ layout_of body x units lines label
    → Puts a b 84 (λ order. encode_fixed order x plan.text plan.label plan.lines)
    → Puts b c (text_width (text_part x.text units)) (λ order. encode_text order (text_part x.text units))
    → Puts c d (label_width c.place (label_part x.label label)) (λ order. encode_label c.place (label_part x.label label))
    → Puts d e (line_width d.place (line_part x.line_table lines)) (λ order. encode_lines order d.place (line_part x.line_table lines))
    → Puts a e (text_box_length body x units lines label) (λ order. encode_text_box order body x units lines label)
unfolding layout_of text_box_length encode_text_box
whole_puts x body units lines label plan l at f fixed_put text_put label_put lines_put =
    parts_puts x body (text_part x.text units) (label_part x.label label) (line_part x.line_table lines) plan l at f fixed_put text_put label_put lines_put
