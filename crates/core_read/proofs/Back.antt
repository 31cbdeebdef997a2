-- What was put is read back: where a list of bytes stands in another, its parts, and the reads of a number, a list of numbers and strings there.
use mathlib.Core.Path.{◌≡◌, refl, sym, ap, ◌∙◌}
use Prim.Native.Nat.{ℕ, zero, suc, ◌+◌, ◌-◌, ◌*◌, ◌^◌, ◌≤◌, ◌<◌}
use native.Mathlib.Omega.{arith}
use mathlib.Core.Bool.{Bool, true, false, cond}
use mathlib.Core.List.{List, [], ◌∷◌, ◌++◌, append_assoc, append-nil}
use lib.ListN.{length, take, drop, replicate, length-append, length-replicate}
use lib.Seq.{take_at, drop_at, take-append_seam}
use lib.Dec.{eqb}
use borrow.Author.Tests.{le-leb, lt-ltb}
use native.Mathlib.Nat.{add_assoc, mul-suc, mul-zero}
use Rattle.core_read.specs.Bytes.{spelled, bytes_of, bytes_of_all, part, number_at, fixed}
use Rattle.core_read.specs.Taken.{advanced, number_taken, string_taken, label_taken, up_to_nul, has_zero, string_of, fixed_string_taken}
use Rattle.core_read.specs.Taken.{Taken}
use Rattle.core_read.specs.Lists.{numbers_taken}
use Rattle.core_read.specs.declared.cursor.Cursor.{Cursor}
use Rattle.core_read.specs.declared.cursor.ByteOrder.{ByteOrder}
use Rattle.core_read.proofs.Numbers.{length_bytes, spelled_bytes}
use Rattle.core_read.proofs.Cursors.{pos_advanced, advanced_zero, advanced_more}
use Rattle.std.specs.Prelude.{Ok}
use Rattle.core_read.specs.declared.text.FixedString.{FixedString}

-- s holds xs at p
pub record Holds (s : List ℕ) (p : ℕ) (xs : List ℕ) : Type 0 where
  pub before : List ℕ
  pub after : List ℕ
  pub whole : s ≡ before ++ (xs ++ after)
  pub place : length before ≡ p

pub holds_left : {s : List ℕ} {p : ℕ} (xs ys : List ℕ) → Holds s p (xs ++ ys) → Holds s p xs
holds_left xs ys a = record { before = a.before; after = ys ++ a.after; whole = a.whole ∙ simp append_assoc; place = a.place }

pub holds_right : {s : List ℕ} {p : ℕ} (xs ys : List ℕ) (w : ℕ) → length xs ≡ w → Holds s p (xs ++ ys) → Holds s (p + w) ys
holds_right {s} {p} xs ys w h a =
    record { before = a.before ++ xs; after = a.after; whole = a.whole ∙ simp append_assoc; place = simp length-append (omega (arith, a.place, h)) }

-- a list stands at the start of itself
pub holds_whole : (s : List ℕ) → Holds s 0 s
holds_whole s = record { before = []; after = []; whole = sym (append-nil s); place = refl }

-- the two parts of what stands somewhere
pub split : {s : List ℕ} {p : ℕ} (xs ys : List ℕ) (w : ℕ) → length xs ≡ w → Holds s p (xs ++ ys) → Holds s p xs × Holds s (p + w) ys
split xs ys w h a = (holds_left xs ys a, holds_right xs ys w h a)

pub holds_fits : {s : List ℕ} {p : ℕ} (xs : List ℕ) → Holds s p xs → p + length xs ≤ length s
holds_fits xs a = rw a.whole (simp length-append (omega (arith, a.place)))

pub holds_part : {s : List ℕ} {p : ℕ} (xs : List ℕ) (w : ℕ) → length xs ≡ w → Holds s p xs → part w s p ≡ xs
unfolding part
holds_part {s} {p} xs w h a = rw (a.whole, drop_at a.before (xs ++ a.after) p a.place) (take_at xs a.after w h)

-- ---- numbers

pub number_back : {s : List ℕ} (c : Cursor) (order : ByteOrder) (w v : ℕ) → v < 256 ^ w → Holds s c.pos (bytes_of order w v)
    → ◌≡◌ {A = Taken ℕ} (number_taken order w s (Ok c)) (record { value = v; then = Ok (advanced c w) })
unfolding number_taken number_at
number_back {s} c order w v h a =
    let l = length_bytes order w v in
    rw (
      le-leb (c.pos + w) (length s) (omega (arith, l, holds_fits (bytes_of order w v) a)),
      holds_part (bytes_of order w v) w l a,
      spelled_bytes order w v h,
    )

-- the number there
pub number_stands : {s : List ℕ} {p : ℕ} (order : ByteOrder) (w v : ℕ) → v < 256 ^ w → Holds s p (bytes_of order w v) → number_at order w s p ≡ v
unfolding number_at
number_stands order w v h a = ap (spelled order) (holds_part (bytes_of order w v) w (length_bytes order w v) a) ∙ spelled_bytes order w v h

-- a list of numbers that fit w bytes each
unfoldable pub Fit : ℕ → List ℕ → Type 0
Fit w [] = Unit {0}
Fit w (v ∷ vs) = (v < 256 ^ w) × Fit w vs

pub length_all : (order : ByteOrder) (w : ℕ) (l : List ℕ) → length (bytes_of_all order w l) ≡ w * length l
unfolding bytes_of_all
length_all order w [] = sym (mul-zero w)
length_all order w (v ∷ l) = simp (length-append, length_bytes, length_all order w l) (omega (arith, mul-suc w (length l)))

pub numbers_back : {s : List ℕ} (c : Cursor) (order : ByteOrder) (w : ℕ) (l : List ℕ) → Fit w l → Holds s c.pos (bytes_of_all order w l)
    → ◌≡◌ {A = Taken (List ℕ)} (numbers_taken order w (length l) s (Ok c)) (record { value = l; then = Ok (advanced c (w * length l)) })
unfolding numbers_taken bytes_of_all Fit
numbers_back c order w [] f a = rw (mul-zero, advanced_zero)
numbers_back {s} c order w (v ∷ l) f a =
    let h = split (bytes_of order w v) (bytes_of_all order w l) w (length_bytes order w v) a in
    let k : Holds s (advanced c w).pos (bytes_of_all order w l) = rw pos_advanced h.1 in
    let m : w * suc (length l) ≡ w + w * length l = omega (arith, mul-suc w (length l)) in
    rw (number_back c order w v f.0 h.0, numbers_back (advanced c w) order w l f.1 k, advanced_more, m)

-- ---- a fixed string

pub length_fixed : (w : ℕ) (l : List ℕ) → length l ≤ w → length (fixed w l) ≡ w
unfolding fixed
length_fixed w l h = simp (length-append, length-replicate) (omega arith)

upto_step : (t : Bool) (b : ℕ) (l u : List ℕ) → cond t true (has_zero l) ≡ false → (has_zero l ≡ false → u ≡ l) → cond t [] (b ∷ u) ≡ b ∷ l
upto_step true b l u h f = cc
upto_step false b l u h f = ap (λ (t : List ℕ). b ∷ t) (f h)

upto_back : (l : List ℕ) (k : ℕ) → has_zero l ≡ false → up_to_nul (l ++ replicate k 0) ≡ l
unfolding up_to_nul has_zero
upto_back [] zero h = refl
upto_back [] (suc k) h = refl
upto_back (b ∷ l) k h = upto_step (eqb b 0) b l (up_to_nul (l ++ replicate k 0)) h (upto_back l k)

upto_fixed : (w : ℕ) (l : List ℕ) → has_zero l ≡ false → up_to_nul (fixed w l) ≡ l
unfolding fixed
upto_fixed w l z = upto_back l (w - length l) z

pub string_back : {s : List ℕ} (c : Cursor) (w : ℕ) (l : List ℕ) → 0 < w → length l ≤ w → has_zero l ≡ false → Holds s c.pos (fixed w l)
    → ◌≡◌ {A = Taken (List ℕ)} (string_taken w s (Ok c)) (record { value = l; then = Ok (advanced c w) })
unfolding string_taken
string_back {s} c w l n h z a =
    let k = length_fixed w l h in
    let e : up_to_nul (fixed w l) ≡ l = upto_fixed w l z in
    rw (lt-ltb c.pos (length s) (omega (arith, k, holds_fits (fixed w l) a)), holds_part (fixed w l) w k a, e, k)

-- ---- a label and its NUL

upto_nul : (l t : List ℕ) → has_zero l ≡ false → up_to_nul (l ++ (0 ∷ t)) ≡ l
unfolding up_to_nul has_zero
upto_nul [] t h = refl
upto_nul (b ∷ l) t h = upto_step (eqb b 0) b l (up_to_nul (l ++ (0 ∷ t))) h (upto_nul l t)

pub label_back : {s : List ℕ} (c : Cursor) (l : List ℕ) → has_zero l ≡ false → Holds s c.pos (l ++ (0 ∷ []))
    → ◌≡◌ {A = Taken (List ℕ)} (label_taken s (Ok c)) (record { value = l; then = Ok (advanced c (length l + 1)) })
unfolding label_taken
label_back {s} c l z a =
    let d : drop c.pos s ≡ l ++ (0 ∷ a.after) = rw (a.whole, drop_at a.before ((l ++ (0 ∷ [])) ++ a.after) c.pos a.place) (append_assoc l (0 ∷ []) a.after) in
    let u : up_to_nul (drop c.pos s) ≡ l = rw d (upto_nul l a.after z) in
    let f = holds_fits (l ++ (0 ∷ [])) a in
    rw (u, lt-ltb (c.pos + length l) (length s) (omega (arith, f, length-append l (0 ∷ []))))

-- ---- the same at an offset k of a cursor, where parts stand one after the other

module _ {s : List ℕ} (c : Cursor) where
  -- the first part of what stands at k, and the rest after its w bytes
  pub cut : (k w : ℕ) (xs ys : List ℕ) → length xs ≡ w → Holds s (c.pos + k) (xs ++ ys) → Holds s (c.pos + k) xs × Holds s (c.pos + (k + w)) ys
  cut k w xs ys e a = let h = split xs ys w e a in (h.0, rw (← add_assoc c.pos k w) h.1)

  -- what stands at an offset stands at the cursor there
  pub there : (k : ℕ) (xs : List ℕ) → Holds s (c.pos + k) xs → Holds s (advanced c k).pos xs
  there k xs a = rw pos_advanced a

  pub number_at_lem : (order : ByteOrder) (k w v : ℕ) → v < 256 ^ w → Holds s (c.pos + k) (bytes_of order w v)
      → ◌≡◌ {A = Taken ℕ} (number_taken order w s (Ok (advanced c k))) (record { value = v; then = Ok (advanced c (k + w)) })
  number_at_lem order k w v h a = number_back (advanced c k) order w v h (there k _ a) ∙ rw advanced_more

  pub string_at : (n k : ℕ) (l : List ℕ) → 0 < n → length l ≤ n → has_zero l ≡ false → Holds s (c.pos + k) (fixed n l)
      → ◌≡◌ {A = Taken (FixedString n)} (fixed_string_taken n s (Ok (advanced c k))) (record { value = string_of n l; then = Ok (advanced c (k + n)) })
  unfolding fixed_string_taken
  string_at n k l p h z a = rw (string_back (advanced c k) n l p h z (there k _ a), advanced_more)

-- the counted bytes of a string that holds given ones
pub string_text : (n : ℕ) (l : List ℕ) → take (string_of n l).count (string_of n l).bytes ≡ l
string_text n l = take-append_seam l _
