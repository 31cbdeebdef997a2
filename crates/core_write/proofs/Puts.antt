-- The laws of `splice` and `Put`: bytes put one after the other, what is left as it was, what is read back.
use mathlib.Core.Path.{◌≡◌, refl, sym, ap, ◌∙◌}
use Prim.Native.Nat.{ℕ, suc, ◌+◌, ◌-◌, ◌≤◌, ◌<◌}
use native.Mathlib.Nat.{add-zero}
use native.Mathlib.Omega.{arith}
use mathlib.Core.List.{List, [], ◌∷◌, ◌++◌, append_assoc, append-nil}
use lib.ListN.{length, take, drop, set, get_or, replicate, length-append, length-set}
use borrow.Rule.Slice.PartMut.{put_mid}
use lib.Seq.{drop-drop, take-suc, sets, sets-eq, take_at, drop_at, length-take-le, take-append_seam}
use native.Mathlib.Numerals.{add-one}
use Rattle.core_read.specs.Bytes.{bytes_of, bytes_of_all, fixed, splice, Put}
use Rattle.core_read.specs.declared.cursor.ByteOrder.{ByteOrder}

pub length_splice : (o : List ℕ) (p : ℕ) (e : List ℕ) → length (splice o p e) ≡ length o
unfolding splice
length_splice o p [] = refl
length_splice o p (b ∷ e) = length_splice (set o p b) (p + 1) e ∙ length-set o p b

-- bytes put after others are the two together
pub splice_append : (o : List ℕ) (p : ℕ) (a b : List ℕ) → splice (splice o p a) (p + length a) b ≡ splice o p (a ++ b)
unfolding splice
splice_append o p [] b = ap (λ (k : ℕ). splice o k b) (add-zero p)
splice_append o p (x ∷ a) b =
    let e : p + suc (length a) ≡ p + 1 + length a = omega arith in
    ap (λ (k : ℕ). splice (splice (set o p x) (p + 1) a) k b) e ∙ splice_append (set o p x) (p + 1) a b

infixr 60 ◌then◌
pub ◌then◌ : {o o₁ o₂ : List ℕ} {p q r v w : ℕ} {a b : List ℕ} → Put o p v a q o₁ → Put o₁ q w b r o₂ → Put o p (v + w) (a ++ b) r o₂
◌then◌ {o} {p = p} {v = v} {w = w} {a = a} {b = b} h k =
    record {
      wide = length-append a b ∙ ap (λ (n : ℕ). n + length b) h.wide ∙ ap (λ (n : ℕ). v + n) k.wide;
      place = omega arith;
      long = k.long ∙ h.long;
      bytes = cc (splice_append o p a b);
    }

-- nothing put: where a loop begins
pub put_none : (o : List ℕ) (p : ℕ) → Put o p 0 [] p o
unfolding splice
put_none o p = record { wide = refl; place = omega arith; long = refl; bytes = refl }

pub take_more : (s : List ℕ) (i : ℕ) → i < length s → take (i + 1) s ≡ take i s ++ (get_or s i 0 ∷ [])
take_more s i h = rw (add-one, take-suc s i 0)

-- the same, with the count and the bytes written in another way
pub put_as : {o o₁ : List ℕ} {p q v w : ℕ} {a b : List ℕ} → v ≡ w → a ≡ b → Put o p v a q o₁ → Put o p w b q o₁
put_as e f h = rw (← e, ← f) h

pub all_append : (order : ByteOrder) (w : ℕ) (a b : List ℕ) → bytes_of_all order w (a ++ b) ≡ bytes_of_all order w a ++ bytes_of_all order w b
unfolding bytes_of_all
all_append order w [] b = refl
all_append order w (v ∷ a) b = rw (all_append order w a b) (sym (append_assoc (bytes_of order w v) (bytes_of_all order w a) (bytes_of_all order w b)))

pub all_one : (order : ByteOrder) (w v : ℕ) → bytes_of_all order w (v ∷ []) ≡ bytes_of order w v
unfolding bytes_of_all
all_one order w v = append-nil (bytes_of order w v)

-- the bytes of one number more
pub all_more : (order : ByteOrder) (w : ℕ) (s : List ℕ) (i : ℕ) → i < length s
    → bytes_of_all order w (take (i + 1) s) ≡ bytes_of_all order w (take i s) ++ bytes_of order w (get_or s i 0)
all_more order w s i h = rw (take_more s i h, all_append) (ap (λ (l : List ℕ). bytes_of_all order w (take i s) ++ l) (all_one order w (get_or s i 0)))

-- a name's bytes and the zeros after them
pub put_fixed : {o o₁ o₂ : List ℕ} {p q r v w k : ℕ} {s : List ℕ} → v + k ≡ w → Put o p v s q o₁ → Put o₁ q k (replicate k 0) r o₂ → Put o p w (fixed w s) r o₂
unfolding fixed
put_fixed {w = w} {k = k} {s = s} e h z =
    let n : k ≡ w - length s = omega arith in
    put_as e (ap (λ (i : ℕ). s ++ replicate i 0) n) (h then z)

-- what `splice` is on a list with room: the bytes before, the new ones, the bytes after
splice_sets : (o : List ℕ) (p : ℕ) (e : List ℕ) → splice o p e ≡ sets o p e
unfolding splice
splice_sets o p [] = refl
splice_sets o p (b ∷ e) = rw add-one (splice_sets (set o p b) (suc p) e)

pub splice_cut : (o : List ℕ) (p : ℕ) (e : List ℕ) → p + length e ≤ length o → splice o p e ≡ take p o ++ e ++ drop (p + length e) o
splice_cut o p e h = splice_sets o p e ∙ sets-eq e o p h

-- what is read back: the bytes before, and the bytes put
pub splice_before : (o : List ℕ) (p : ℕ) (e : List ℕ) → p + length e ≤ length o → take p (splice o p e) ≡ take p o
splice_before o p e h =
    ap (take p) (splice_cut o p e h ∙ append_assoc (take p o) e (drop (p + length e) o))
    ∙ take_at (take p o) (e ++ drop (p + length e) o) p (length-take-le p o (omega arith))

pub splice_read : (o : List ℕ) (p : ℕ) (e : List ℕ) → p + length e ≤ length o → take (length e) (drop p (splice o p e)) ≡ e
splice_read o p e h =
    ap (λ (l : List ℕ). take (length e) (drop p l)) (splice_cut o p e h ∙ append_assoc (take p o) e (drop (p + length e) o))
    ∙ ap (take (length e)) (drop_at (take p o) (e ++ drop (p + length e) o) p (length-take-le p o (omega arith)))
    ∙ take-append_seam e (drop (p + length e) o)

-- a part of the output that holds the bytes now
pub put_part : (o : List ℕ) (p w k r : ℕ) (e l : List ℕ) → p + w ≤ length o → r ≡ p + w → k ≡ w → length e ≡ w → l ≡ e → Put o p w e r (put_mid p k o l)
put_part o p w k r e l room there wide n same =
    let past : drop k (drop p o) ≡ drop (p + length e) o = rw (wide, n) (drop-drop w p o) in
    let b : put_mid p k o l ≡ splice o p e =
    rw (same, past) (sym (splice_cut o p e (omega arith) ∙ append_assoc (take p o) e (drop (p + length e) o))) in
    record { wide = n; place = there; long = ap length b ∙ length_splice o p e; bytes = b }
