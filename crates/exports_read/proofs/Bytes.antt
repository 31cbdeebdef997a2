-- What is read from bytes, each of them below 256: a number is below its width, and a string is bytes within its width.
use mathlib.Core.Path.{◌≡◌, refl}
use Prim.Native.Nat.{ℕ, zero, suc, ◌+◌, ◌^◌, ◌≤◌, ◌<◌}
use native.Mathlib.Omega.{arith}
use mathlib.Core.Bool.{Bool, true, false, cond}
use mathlib.Core.List.{List, [], ◌∷◌, ◌++◌, reverse_aux}
use lib.ListN.{length, take, drop, replicate, length-append, length-take, length-drop, length-reverse, length-replicate}
use lib.Dec.{leb, ltb, eqb}
use Rattle.core_read.specs.Bytes.{little, ordered, spelled, part, number_at}
use Rattle.core_read.specs.Taken.{number_taken, up_to_nul, string_taken, over, Place}
use Rattle.core_read.specs.Taken.{Taken}
use Rattle.core_read.specs.declared.cursor.ByteOrder.{ByteOrder}
use Rattle.core_read.specs.declared.cursor.ByteOrder.TheVariants.{Little, Big}
use Rattle.strip_records.specs.Typed.{Below}
use Rattle.std.specs.Prelude.{Err, Ok}

-- what holds on either side of a test
pub either : {A : Type 0} (P : A → Type 0) (t : Bool) (x y : A) → P x → P y → P (cond t x y)
either P true x y h k = h
either P false x y h k = k

-- ---- lists of bytes

below_take : (i : ℕ) (l : List ℕ) → Below 256 l → Below 256 (take i l)
unfolding Below
below_take zero l h = tt
below_take (suc i) [] h = tt
below_take (suc i) (x ∷ xs) (h, k) = (h, below_take i xs k)

below_drop : (i : ℕ) (l : List ℕ) → Below 256 l → Below 256 (drop i l)
unfolding Below
below_drop zero l h = h
below_drop (suc i) [] h = tt
below_drop (suc i) (x ∷ xs) (h, k) = below_drop i xs k

below_part : (w : ℕ) (s : List ℕ) (at : ℕ) → Below 256 s → Below 256 (part w s at)
unfolding part
below_part w s at h = below_take w (drop at s) (below_drop at s h)

below_reversed : (l r : List ℕ) → Below 256 l → Below 256 r → Below 256 (reverse_aux l r)
unfolding Below
below_reversed [] r h k = k
below_reversed (x ∷ xs) r (h, hs) k = below_reversed xs (x ∷ r) hs (h, k)

below_ordered : (order : ByteOrder) (l : List ℕ) → Below 256 l → Below 256 (ordered order l)
unfolding Below
below_ordered Little l h = h
below_ordered Big l h = below_reversed l [] h tt

below_append : (l r : List ℕ) → Below 256 l → Below 256 r → Below 256 (l ++ r)
unfolding Below
below_append [] r h k = k
below_append (x ∷ xs) r (h, hs) k = (h, below_append xs r hs k)

pub below_zeros : (n : ℕ) → Below 256 (replicate n 0)
unfolding Below
below_zeros zero = tt
below_zeros (suc n) = (omega arith, below_zeros n)

ordered_long : (order : ByteOrder) (l : List ℕ) → length (ordered order l) ≡ length l
ordered_long Little l = refl
ordered_long Big l = length-reverse l

part_long : (w : ℕ) (s : List ℕ) (at : ℕ) → length (part w s at) ≤ w
unfolding part
part_long w s at = omega (arith, length-take w (drop at s))

-- ---- numbers

little_below : (w : ℕ) (bs : List ℕ) → length bs ≤ w → Below 256 bs → little bs < 256 ^ w
unfolding Below
little_below zero [] h k = omega arith
little_below zero (b ∷ bs) h k = absurd (omega arith)
little_below (suc w) [] h k = omega (arith, little_below w [] (omega arith) tt)
little_below (suc w) (b ∷ bs) h (k, ks) = omega (arith, k, little_below w bs (omega arith) ks)

number_below : (order : ByteOrder) (w : ℕ) (s : List ℕ) (at : ℕ) → Below 256 s → number_at order w s at < 256 ^ w
unfolding number_at spelled
number_below order w s at h =
    little_below w (ordered order (part w s at)) (omega (arith, ordered_long order (part w s at), part_long w s at)) (below_ordered order (part w s at) (below_part w s at h))

-- 0 is below every width
nothing_below : (w : ℕ) → 0 < 256 ^ w
unfolding Below
nothing_below w = little_below w [] (omega arith) tt

pub taken_below : (order : ByteOrder) (w : ℕ) (s : List ℕ) (p : Place) → Below 256 s → (number_taken order w s p).value < 256 ^ w
unfolding number_taken
taken_below order w s (Ok c) h = either (λ (t : Taken ℕ). t.value < 256 ^ w) (leb (c.pos + w) (length s)) _ _ (number_below order w s c.pos h) (nothing_below w)
taken_below order w s (Err why) h = nothing_below w

-- ---- strings

up_below : (l : List ℕ) → Below 256 l → Below 256 (up_to_nul l)
unfolding Below up_to_nul
up_below [] h = tt
up_below (b ∷ bs) (h, k) = either (Below 256) (eqb b 0) [] (b ∷ up_to_nul bs) tt (h, up_below bs k)

up_long : (l : List ℕ) → length (up_to_nul l) ≤ length l
unfolding up_to_nul
up_long [] = omega arith
up_long (b ∷ bs) = either (λ (x : List ℕ). length x ≤ suc (length bs)) (eqb b 0) [] (b ∷ up_to_nul bs) (omega arith) (omega (arith, up_long bs))

-- at most w bytes
pub record Text (w : ℕ) (l : List ℕ) : Type 0 where
  pub bytes : Below 256 l
  pub few : length l ≤ w

no_text : (w : ℕ) → Text w []
unfolding Below
no_text w = record { bytes = tt; few = omega arith }

pub taken_text : (w : ℕ) (s : List ℕ) (p : Place) → Below 256 s → Text w (string_taken w s p).value
unfolding string_taken
taken_text w s (Ok c) h =
    let found : Text w (up_to_nul (part w s c.pos)) = record {
      bytes = up_below (part w s c.pos) (below_part w s c.pos h);
      few = omega (arith, up_long (part w s c.pos), part_long w s c.pos);
    } in
    either (λ (t : Taken (List ℕ)). Text w t.value) (ltb c.pos (length s)) _ _ found (no_text w)
taken_text w s (Err why) h = no_text w

-- laid over as many zeros: bytes, and of that width
pub text_below : (w : ℕ) (l : List ℕ) → Text w l → Below 256 (over l (replicate w 0))
text_below w l t = below_append l (drop (length l) (replicate w 0)) t.bytes (below_drop (length l) (replicate w 0) (below_zeros w))

pub text_long : (w : ℕ) (l : List ℕ) → Text w l → length (over l (replicate w 0)) ≡ w
text_long w l t =
    let zeros : List ℕ = replicate w 0 in
    omega (arith, t.few, length-append l (drop (length l) zeros), length-drop (length l) zeros, length-replicate {A = ℕ} w 0)
