-- Quads one after the other, between the bytes and a list of bits: one more of each.
use mathlib.Core.Path.{◌≡◌, sym, ap, ◌∙◌}
use Prim.Native.Nat.{ℕ, zero, suc, ◌+◌, ◌*◌, ◌/◌, ◌%◌, ◌^◌, ◌≤◌, ◌<◌}
use native.Mathlib.Nat.{add-zero, zero-add, suc-add, mul-zero, mul-suc}
use native.Mathlib.Omega.{arith}
use mathlib.Core.List.{List, [], ◌∷◌, ◌++◌}
use lib.ListN.{length, take, drop, get_or, length-append, length-drop}
use lib.Seq.{take_at, take-add, drop-append-add, drop-drop, length-take-le}
use Rattle.std.specs.Simd.{first_chunks}
use Rattle.core_read.specs.Bytes.{number_at, bytes_of_all, splice}
use Rattle.core_read.specs.Lists.{numbers_at}
use Rattle.core_read.specs.declared.cursor.ByteOrder.{ByteOrder}
use Rattle.core_write.proofs.Puts.{length_splice, splice_cut, all_append}
use Rattle.core_read.proofs.Lists.{Filled, length_numbers}
use Rattle.ui2d.specs.Parts.{encode_quad}
use Rattle.ui2d.specs.Quads.{quad_bits, quad_at}
use Rattle.ui2d.specs.declared.Quad.{Quad}
use Rattle.ui2d.proofs.Parts.{quad_bytes}
use Rattle.ui2d.proofs.QuadBits.{bits_quad}
use Rattle.ui2d.proofs.Chunks.{chunk_at}

-- the bytes of one quad more: the chunk i of a list cut into eights
pub quads_more : (order : ByteOrder) (l : List ℕ) (k i : ℕ) (eights : List (List ℕ)) (q : Quad) → eights ≡ first_chunks 8 k l → i < k → 8 * k ≤ length l
    → q ≡ quad_at (get_or eights i []) 0 → bytes_of_all order 4 (take (8 * i) l) ++ encode_quad order q ≡ bytes_of_all order 4 (take (8 * (i + 1)) l)
quads_more order l k i eights q c h room e =
    let eight : List ℕ = take 8 (drop (8 * i) l) in
    let next : 8 * (i + 1) ≡ 8 * i + 8 = omega arith in
    let is : get_or eights i [] ≡ eight = ap (λ (t : List (List ℕ)). get_or t i []) c ∙ chunk_at 8 k i l [] h in
    let long : length eight ≡ 8 = length-take-le 8 (drop (8 * i) l) (simp length-drop (omega arith)) in
    let bits : quad_bits q ≡ eight = ap quad_bits (e ∙ ap (λ (m : List ℕ). quad_at m 0) is) ∙ bits_quad eight long in
    ap (λ (b : List ℕ). bytes_of_all order 4 (take (8 * i) l) ++ b) (quad_bytes order q ∙ ap (bytes_of_all order 4) bits)
    ∙ sym (ap (bytes_of_all order 4) (ap (λ (n : ℕ). take n l) next ∙ take-add (8 * i) 8 l) ∙ all_append order 4 (take (8 * i) l) eight)

-- numbers after others
numbers_join : (order : ByteOrder) (w m k : ℕ) (s : List ℕ) (at : ℕ)
    → numbers_at order w (m + k) s at ≡ numbers_at order w m s at ++ numbers_at order w k s (at + w * m)
unfolding numbers_at
numbers_join order w zero k s at = rw (zero-add k, mul-zero w, add-zero at)
numbers_join order w (suc m) k s at =
    let e : at + w + w * m ≡ at + w * suc m = omega (arith, mul-suc w m) in
    rw (suc-add m k) (ap (λ (l : List ℕ). number_at order w s at ∷ l) (rw (← e) (numbers_join order w m k s (at + w))))

-- k numbers laid after m, where the old ones stood
laid : (order : ByteOrder) (s : List ℕ) (at m k : ℕ) (old : List ℕ) → m + k ≤ length old
    → splice (numbers_at order 4 m s at ++ drop m old) m (numbers_at order 4 k s (at + 4 * m)) ≡ numbers_at order 4 (m + k) s at ++ drop (m + k) old
laid order s at m k old h =
    let a : List ℕ = numbers_at order 4 m s at in
    let b : List ℕ = numbers_at order 4 k s (at + 4 * m) in
    let la : length a ≡ m = length_numbers order 4 m s at in
    let lb : length b ≡ k = length_numbers order 4 k s (at + 4 * m) in
    let fits : m + length b ≤ length (a ++ drop m old) = simp (length-append, length-drop) (omega (arith, la, lb)) in
    let rest : drop (m + k) (a ++ drop m old) ≡ drop (m + k) old =
    ap (λ (j : ℕ). drop (j + k) (a ++ drop m old)) (sym la) ∙ drop-append-add a (drop m old) k ∙ drop-drop k m old in
    splice_cut (a ++ drop m old) m b fits ∙ rw (take_at a (drop m old) m la, lb, rest, numbers_join order 4 m k s at)

-- one quad more at the front of a list
pub quad_filled : (order : ByteOrder) (s : List ℕ) (at n : ℕ) (old l : List ℕ) (i : ℕ) → Filled order 4 s at (8 * n) old l (8 * i)
    → i < n → 8 * n ≤ length old → (q : Quad) → q ≡ quad_at (numbers_at order 4 8 s (at + 32 * i)) 0
    → Filled order 4 s at (8 * n) old (splice l (8 * i) (quad_bits q)) (8 * (i + 1))
quad_filled order s at n old l i f h k q e =
    let next : 8 * (i + 1) ≡ 8 * i + 8 = omega arith in
    let place : at + 32 * i ≡ at + 4 * (8 * i) = omega arith in
    record {
      within = omega arith;
      long = length_splice l (8 * i) (quad_bits q) ∙ f.long;
      front =
          rw (e, place, f.front, bits_quad (numbers_at order 4 8 s (at + 4 * (8 * i))) (length_numbers order 4 8 s (at + 4 * (8 * i))), next)
          (laid order s at (8 * i) 8 old (omega arith));
    }

-- how many quads a list of floats has
pub count_fit : (n : ℕ) → n ≤ 2040 → n / 8 < 256 ^ 1
count_fit n h = omega arith

pub eight : (n : ℕ) → n % 8 ≡ 0 → 8 * (n / 8) ≡ n
eight n h = omega arith
