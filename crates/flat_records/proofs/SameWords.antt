-- THE LAW: words that pass the test for bounds, in which what is absent is 0 and each count is below 256, come back from their record the same.
use mathlib.Core.Path.{◌≡◌, refl, ap, ◌∙◌, subst}
use Prim.Native.Nat.{ℕ, zero, suc, ◌+◌, ◌<◌}
use native.Mathlib.Nat.{mod-eq_of_lt}
use native.Mathlib.Omega.{arith}
use mathlib.Core.List.{List, [], ◌∷◌, ◌++◌}
use lib.ListN.{get_or}
use Rattle.core_read.specs.Bytes.{splice}
use Rattle.strip_records.specs.declared.kind.Kind.{Kind}
use Rattle.strip_records.specs.declared.kind.Kind.TheVariants.{Pan1, Pic1, Txt1, Wnd1, Ali1}
use Rattle.flat.specs.Words.{byte_at, half_at, quadruple_at, color_words, colors_at, colors_words, float_at, vector2_at, vector3_at}
use Rattle.flat.specs.Base.{pane_flags_words, position_words, flag_ex_words, name_words, user_words, transform_words, base_words, pane_flags_at, position_at, flag_ex_at, name_at, user_at, base_at}
use Rattle.flat_kinds.specs.Own.{shape_words, picture_words, shape_at, picture_at, inflation_words, frame_size_words, window_flags_words, window_words, window_flags_at, window_at, alignment_words, alignment_at}
use Rattle.flat_text_box.specs.TextBox.{indices_words, text_flags_words, measure_words, font_words, shadow_words, text_words, label_words, lines_words, text_box_words, text_flags_at, measure_at, text_at, label_at, lines_at, text_box_at}
use Rattle.flat_records.specs.Records.{kind_of, kind_number, own_words, record_words, record_by, record_of}
use Rattle.flat_records.specs.Below.{Checked, good, base_bounds, picture_bounds, font_bounds, shadow_bounds, window_bounds, alignment_bounds, checked_by, own_checked, words_checked}
use Rattle.flat_records.specs.Typed.{Plain, Counted}
use Rattle.flat_records.proofs.SameParts.{run, run_again, Scanned, below, AllScanned, all_good, flag_word_lem, horizontal_word, vertical_word, window_kind_word, alignment_word, kind_word, side_word, bytes_words}

join : {a b c d : List ℕ} → a ≡ b → c ≡ d → a ++ c ≡ b ++ d
join e f = rw (e, f)

one : {a b : ℕ} → a ≡ b → a ∷ [] ≡ b ∷ []
one e = rw e

module _ (w : List ℕ) where
  -- ---- the base

  flags_same : Scanned w 1 8 2 → pane_flags_words (pane_flags_at w) ≡ run w 1 8
  unfolding run
  flags_same s = rw (flag_word_lem (get_or w 1 0) (below s 0 (omega arith)), flag_word_lem (get_or w 2 0) (below s 1 (omega arith)), flag_word_lem (get_or w 3 0) (below s 2 (omega arith)), flag_word_lem (get_or w 4 0) (below s 3 (omega arith)), flag_word_lem (get_or w 5 0) (below s 4 (omega arith)), flag_word_lem (get_or w 6 0) (below s 5 (omega arith)), flag_word_lem (get_or w 7 0) (below s 6 (omega arith)), flag_word_lem (get_or w 8 0) (below s 7 (omega arith)))

  position_same : Scanned w 9 4 3 → position_words (position_at w) ≡ run w 9 4
  unfolding run
  position_same s =
      rw (horizontal_word (get_or w 9 0) (below s 0 (omega arith)), vertical_word (get_or w 10 0) (below s 1 (omega arith)), horizontal_word (get_or w 11 0) (below s 2 (omega arith)), vertical_word (get_or w 12 0) (below s 3 (omega arith)))

  flag_ex_same : Scanned w 13 1 256 → Scanned w 14 3 2 → Scanned w 17 1 256 → flag_ex_words (byte_at w 13) (flag_ex_at w) ≡ run w 13 5
  unfolding run
  flag_ex_same a s r = rw (mod-eq_of_lt (below a 0 (omega arith)), flag_word_lem (get_or w 14 0) (below s 0 (omega arith)), flag_word_lem (get_or w 15 0) (below s 1 (omega arith)), flag_word_lem (get_or w 16 0) (below s 2 (omega arith)), mod-eq_of_lt (below r 0 (omega arith)))

  transform_same : Scanned w 52 10 4294967296 → transform_words (vector3_at w 52) (vector3_at w 55) (vector2_at w 58) (vector2_at w 60) ≡ run w 52 10
  unfolding run base_at
  transform_same s = rw (mod-eq_of_lt (below s 0 (omega arith)), mod-eq_of_lt (below s 1 (omega arith)), mod-eq_of_lt (below s 2 (omega arith)), mod-eq_of_lt (below s 3 (omega arith)), mod-eq_of_lt (below s 4 (omega arith)), mod-eq_of_lt (below s 5 (omega arith)), mod-eq_of_lt (below s 6 (omega arith)), mod-eq_of_lt (below s 7 (omega arith)), mod-eq_of_lt (below s 8 (omega arith)), mod-eq_of_lt (below s 9 (omega arith)))

  name_same : Scanned w 19 24 256 → name_words (name_at w) ≡ run w 18 25
  unfolding run
  name_same s = ap (λ (l : List ℕ). get_or w 18 0 ∷ l) (bytes_words w 19 24 (below s))

  user_same : Scanned w 44 8 256 → user_words (user_at w) ≡ run w 43 9
  unfolding run
  user_same s = ap (λ (l : List ℕ). get_or w 43 0 ∷ l) (bytes_words w 44 8 (below s))

  base_same : AllScanned base_bounds w → base_words (base_at w) ≡ run w 1 61
  unfolding run base_words base_at
  base_same (k, (f, (p, (a, (x, (r, (n, (u, (t, z))))))))) =
      join (flags_same f) (join (position_same p) (join (flag_ex_same a x r) (join (name_same n) (join (user_same u) (transform_same t)))))

  -- ---- colours

  color_same : (p : ℕ) → (get_or w p 0 < 256) → (get_or w (p + 1) 0 < 256) → (get_or w (p + 2) 0 < 256) → (get_or w (p + 3) 0 < 256)
      → color_words (quadruple_at w p) ≡ get_or w p 0 ∷ get_or w (p + 1) 0 ∷ get_or w (p + 2) 0 ∷ get_or w (p + 3) 0 ∷ []
  color_same p a b c d = rw (mod-eq_of_lt a, mod-eq_of_lt b, mod-eq_of_lt c, mod-eq_of_lt d)

  -- ---- pic1

  colors62 : Scanned w 62 16 256 → colors_words (colors_at w 62) ≡ run w 62 16
  unfolding run
  colors62 s = join (color_same 62 (below s 0 (omega arith)) (below s 1 (omega arith)) (below s 2 (omega arith)) (below s 3 (omega arith))) (join (color_same 66 (below s 4 (omega arith)) (below s 5 (omega arith)) (below s 6 (omega arith)) (below s 7 (omega arith))) (join (color_same 70 (below s 8 (omega arith)) (below s 9 (omega arith)) (below s 10 (omega arith)) (below s 11 (omega arith))) (color_same 74 (below s 12 (omega arith)) (below s 13 (omega arith)) (below s 14 (omega arith)) (below s 15 (omega arith)))))

  shape_same : (n : ℕ) → get_or w 80 0 ≡ n → n < 2 → Scanned w 81 1 4294967296 → (n ≡ 0 → get_or w 81 0 ≡ 0) → shape_words (shape_at w) ≡ run w 80 2
  unfolding run
  shape_same zero e h s k = rw (e, k refl)
  shape_same (suc zero) e h s k = rw (e, mod-eq_of_lt (below s 0 (omega arith)))
  shape_same (suc (suc n)) e h s k = absurd (omega arith)

  picture_same : AllScanned picture_bounds w → Plain Pic1 w → Counted Pic1 w → picture_words (picture_at w) ≡ run w 62 20
  unfolding run picture_words picture_at
  picture_same (c, (m, (p, (i, z)))) k q =
      let e : half_at w 78 ∷ byte_at w 79 ∷ [] ≡ get_or w 78 0 ∷ get_or w 79 0 ∷ [] = rw (mod-eq_of_lt (below m 0 (omega arith)), mod-eq_of_lt q) in
      join (colors62 c) (join e (shape_same (get_or w 80 0) refl (below p 0 (omega arith)) i k))

  -- ---- txt1

  indices_same : Scanned w 62 4 65536 → Scanned w 66 2 3 → Scanned w 68 1 4 → indices_words (text_box_at w) ≡ run w 62 7
  unfolding run text_box_at
  indices_same s o a =
      rw (mod-eq_of_lt (below s 0 (omega arith)), mod-eq_of_lt (below s 1 (omega arith)), mod-eq_of_lt (below s 2 (omega arith)), mod-eq_of_lt (below s 3 (omega arith)), horizontal_word (get_or w 66 0) (below o 0 (omega arith)), vertical_word (get_or w 67 0) (below o 1 (omega arith)), alignment_word (get_or w 68 0) (below a 0 (omega arith)))

  text_flags_same : Scanned w 69 15 2 → text_flags_words (text_flags_at w) ≡ run w 69 14
  unfolding run
  text_flags_same s = rw (flag_word_lem (get_or w 69 0) (below s 0 (omega arith)), flag_word_lem (get_or w 70 0) (below s 1 (omega arith)), flag_word_lem (get_or w 71 0) (below s 2 (omega arith)), flag_word_lem (get_or w 72 0) (below s 3 (omega arith)), flag_word_lem (get_or w 73 0) (below s 4 (omega arith)), flag_word_lem (get_or w 74 0) (below s 5 (omega arith)), flag_word_lem (get_or w 75 0) (below s 6 (omega arith))) (rw (flag_word_lem (get_or w 76 0) (below s 7 (omega arith)), flag_word_lem (get_or w 77 0) (below s 8 (omega arith)), flag_word_lem (get_or w 78 0) (below s 9 (omega arith)), flag_word_lem (get_or w 79 0) (below s 10 (omega arith)), flag_word_lem (get_or w 80 0) (below s 11 (omega arith)), flag_word_lem (get_or w 81 0) (below s 12 (omega arith)), flag_word_lem (get_or w 82 0) (below s 13 (omega arith))))

  measure_same : (n : ℕ) → get_or w 83 0 ≡ n → n < 2 → Scanned w 84 3 4294967296 → measure_words (measure_at w) ≡ run w 83 3
  unfolding run
  measure_same zero e h s = rw (e, mod-eq_of_lt (below s 0 (omega arith)), mod-eq_of_lt (below s 1 (omega arith)))
  measure_same (suc zero) e h s = rw (e, mod-eq_of_lt (below s 0 (omega arith)), mod-eq_of_lt (below s 1 (omega arith)))
  measure_same (suc (suc n)) e h s = absurd (omega arith)

  font_same : Scanned w 69 15 2 → Scanned w 84 3 4294967296 → Scanned w 87 8 256 → font_words (text_box_at w) ≡ run w 83 12
  unfolding run text_box_at
  font_same f m c =
      let e : (float_at w 86).bits ∷ [] ≡ get_or w 86 0 ∷ [] = rw (mod-eq_of_lt (below m 2 (omega arith))) in
      join (measure_same (get_or w 83 0) refl (below f 14 (omega arith)) m) (join e (join (color_same 87 (below c 0 (omega arith)) (below c 1 (omega arith)) (below c 2 (omega arith)) (below c 3 (omega arith))) (color_same 91 (below c 4 (omega arith)) (below c 5 (omega arith)) (below c 6 (omega arith)) (below c 7 (omega arith)))))

  shadow_same : Scanned w 95 6 4294967296 → Scanned w 101 8 256 → shadow_words (text_box_at w) ≡ run w 95 14
  unfolding run text_box_at
  shadow_same s c =
      let e : (float_at w 95).bits ∷ (float_at w 96).bits ∷ (vector2_at w 97).x.bits ∷ (vector2_at w 97).y.bits ∷ (vector2_at w 99).x.bits ∷ (vector2_at w 99).y.bits ∷ [] ≡ run w 95 6 = rw (mod-eq_of_lt (below s 0 (omega arith)), mod-eq_of_lt (below s 1 (omega arith)), mod-eq_of_lt (below s 2 (omega arith)), mod-eq_of_lt (below s 3 (omega arith)), mod-eq_of_lt (below s 4 (omega arith)), mod-eq_of_lt (below s 5 (omega arith))) in
      join e (join (color_same 101 (below c 0 (omega arith)) (below c 1 (omega arith)) (below c 2 (omega arith)) (below c 3 (omega arith))) (color_same 105 (below c 4 (omega arith)) (below c 5 (omega arith)) (below c 6 (omega arith)) (below c 7 (omega arith))))

  text_same : (n : ℕ) → get_or w 110 0 ≡ n → n < 2 → Scanned w 109 1 4294967296 → text_words (float_at w 109) (text_at w) ≡ run w 109 2
  unfolding run
  text_same zero e h s = rw (e, mod-eq_of_lt (below s 0 (omega arith)))
  text_same (suc zero) e h s = rw (e, mod-eq_of_lt (below s 0 (omega arith)))
  text_same (suc (suc n)) e h s = absurd (omega arith)

  label_same : (n : ℕ) → get_or w 111 0 ≡ n → n < 2 → (n ≡ 0 → (get_or w 112 0 ≡ 0) × (get_or w 113 0 ≡ 0)) → label_words (label_at w) ≡ run w 111 3
  unfolding run
  label_same zero e h k = rw (e, (k refl).0, (k refl).1)
  label_same (suc zero) e h k = rw e
  label_same (suc (suc n)) e h k = absurd (omega arith)

  lines_same : (n : ℕ) → get_or w 114 0 ≡ n → n < 2 → get_or w 115 0 < 256 → (n ≡ 0 → get_or w 115 0 ≡ 0) → lines_words (lines_at w) ≡ run w 114 2
  unfolding run
  lines_same zero e h s k = rw (e, k refl)
  lines_same (suc zero) e h s k = rw (e, mod-eq_of_lt s)
  lines_same (suc (suc n)) e h s k = absurd (omega arith)

  text_box_same : AllScanned font_bounds w → AllScanned shadow_bounds w → Plain Txt1 w → Counted Txt1 w → text_box_words (text_box_at w) ≡ run w 62 54
  unfolding run text_box_words text_box_at
  text_box_same (s, (o, (a, (f, (m, (c, y)))))) (h, (d, (t, (p, (l, z))))) (kl, kt) n =
      join (indices_same s o a)
      (join (text_flags_same f)
      (join (font_same f m c)
      (join (shadow_same h d)
      (join (text_same (get_or w 110 0) refl (below p 0 (omega arith)) t) (join (label_same (get_or w 111 0) refl (below p 1 (omega arith)) kl) (lines_same (get_or w 114 0) refl (below l 0 (omega arith)) n kt))))))

  -- ---- wnd1

  sides_same : Scanned w 62 8 65536 → inflation_words (window_at w) ++ frame_size_words (window_at w) ≡ run w 62 8
  unfolding run window_at
  sides_same s = rw (side_word (get_or w 62 0) (below s 0 (omega arith)), side_word (get_or w 63 0) (below s 1 (omega arith)), side_word (get_or w 64 0) (below s 2 (omega arith)), side_word (get_or w 65 0) (below s 3 (omega arith)), side_word (get_or w 66 0) (below s 4 (omega arith)), side_word (get_or w 67 0) (below s 5 (omega arith)), side_word (get_or w 68 0) (below s 6 (omega arith)), side_word (get_or w 69 0) (below s 7 (omega arith)))

  window_flags_same : Scanned w 70 2 2 → get_or w 72 0 < 3 → Scanned w 73 1 2 → get_or w 74 0 < 256 → window_flags_words (window_flags_at w) (byte_at w 74) ≡ run w 70 5
  unfolding run
  window_flags_same f k d n = rw (flag_word_lem (get_or w 70 0) (below f 0 (omega arith)), flag_word_lem (get_or w 71 0) (below f 1 (omega arith)), window_kind_word (get_or w 72 0) k, flag_word_lem (get_or w 73 0) (below d 0 (omega arith)), mod-eq_of_lt n)

  colors75 : Scanned w 75 16 256 → colors_words (colors_at w 75) ≡ run w 75 16
  unfolding run
  colors75 s = join (color_same 75 (below s 0 (omega arith)) (below s 1 (omega arith)) (below s 2 (omega arith)) (below s 3 (omega arith))) (join (color_same 79 (below s 4 (omega arith)) (below s 5 (omega arith)) (below s 6 (omega arith)) (below s 7 (omega arith))) (join (color_same 83 (below s 8 (omega arith)) (below s 9 (omega arith)) (below s 10 (omega arith)) (below s 11 (omega arith))) (color_same 87 (below s 12 (omega arith)) (below s 13 (omega arith)) (below s 14 (omega arith)) (below s 15 (omega arith)))))

  window_same : AllScanned window_bounds w → Counted Wnd1 w → window_words (window_at w) ≡ run w 62 31
  unfolding run window_words window_at
  window_same (s, (f, (k, (d, (c, (m, z)))))) (n, q) =
      let e : half_at w 91 ∷ byte_at w 92 ∷ [] ≡ get_or w 91 0 ∷ get_or w 92 0 ∷ [] = rw (mod-eq_of_lt (below m 0 (omega arith)), mod-eq_of_lt q) in
      join (sides_same s) (join (window_flags_same f (omega (arith, below k 0 (omega arith))) d n) (join (colors75 c) e))

  -- ---- ali1

  alignment_same : AllScanned alignment_bounds w → alignment_words (alignment_at w) ≡ run w 62 4
  unfolding run
  alignment_same (s, (f, z)) = rw (mod-eq_of_lt (below s 0 (omega arith)), mod-eq_of_lt (below s 1 (omega arith)), flag_word_lem (get_or w 64 0) (below f 0 (omega arith)), flag_word_lem (get_or w 65 0) (below f 1 (omega arith)))

  -- ---- a record

  whole_same : (k : Kind) → kind_number k ≡ get_or w 0 0 → AllScanned base_bounds w → own_checked k good w ≡ good → Plain k w → Counted k w → splice w 0 (record_words (record_by k w)) ≡ w
  unfolding run record_words record_by own_words
  whole_same Pan1 e b o p n = ap (splice w 0) (join (one e) (join (base_same b) refl)) ∙ run_again w 0 62
  whole_same Pic1 e b o p n = ap (splice w 0) (join (one e) (join (base_same b) (picture_same (all_good good picture_bounds w o).1 p n))) ∙ run_again w 0 82
  whole_same Txt1 e b o p n =
      let (f, s) = all_good (checked_by good font_bounds w) shadow_bounds w o in
      ap (splice w 0) (join (one e) (join (base_same b) (text_box_same (all_good good font_bounds w f).1 s p n))) ∙ run_again w 0 116
  whole_same Wnd1 e b o p n = ap (splice w 0) (join (one e) (join (base_same b) (window_same (all_good good window_bounds w o).1 n))) ∙ run_again w 0 93
  whole_same Ali1 e b o p n = ap (splice w 0) (join (one e) (join (base_same b) (alignment_same (all_good good alignment_bounds w o).1))) ∙ run_again w 0 66

  own_good : (k : Kind) (c : Checked) → own_checked k c w ≡ good → c ≡ good
  own_good Pan1 c e = e
  own_good Pic1 c e = (all_good c picture_bounds w e).0
  own_good Txt1 c e = (all_good c font_bounds w (all_good (checked_by c font_bounds w) shadow_bounds w e).0).0
  own_good Wnd1 c e = (all_good c window_bounds w e).0
  own_good Ali1 c e = (all_good c alignment_bounds w e).0

  -- THE LAW
  pub same_words : words_checked w ≡ good → Plain (kind_of (get_or w 0 0)) w → Counted (kind_of (get_or w 0 0)) w → splice w 0 (record_words (record_of w)) ≡ w
  unfolding words_checked
  same_words g p n =
      let c = own_good (kind_of (get_or w 0 0)) (checked_by good base_bounds w) g in
      let b = (all_good good base_bounds w c).1 in
      let o = subst (λ (d : Checked). own_checked (kind_of (get_or w 0 0)) d w ≡ good) c g in
      whole_same (kind_of (get_or w 0 0)) (kind_word (get_or w 0 0) (below b.0 0 (omega arith))) b o p n
