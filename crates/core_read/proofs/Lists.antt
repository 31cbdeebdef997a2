-- Runs of numbers, for every width together.
use mathlib.Core.Path.{◌≡◌, refl, sym, ap, ◌∙◌}
use mathlib.Core.List.{List, [], ◌∷◌, ◌++◌, append_assoc}
use Prim.Native.Nat.{ℕ, zero, suc, ◌+◌, ◌-◌, ◌*◌, ◌/◌, ◌≤◌, ◌<◌}
use native.Mathlib.Nat.{mul-suc, mul-zero}
use native.Mathlib.Numerals.{add-one}
use native.Mathlib.Omega.{arith}
use Rattle.std.proofs.Math.Nat.{mul-div-le, le-div_iff_mul-le, lt-div-mul-add, mul_comm}
use lib.ListN.{length, drop, get_or, set, length-set}
use lib.Seq.{set_at, drop-cons}
use Rattle.core_read.specs.Bytes.{number_at}
use Rattle.core_read.specs.Taken.{advanced, number_taken, Place}
use Rattle.core_read.specs.Taken.{Taken}
use Rattle.core_read.specs.Lists.{numbers_taken, numbers_at}
use Rattle.core_read.specs.declared.error.Refusal.{Refusal}
use Rattle.core_read.specs.declared.error.Refusal.TheVariants.{UnexpectedEof}
use Rattle.core_read.specs.declared.cursor.ByteOrder.{ByteOrder}
use Rattle.core_read.specs.declared.cursor.Cursor.{Cursor}
use Rattle.core_read.proofs.Cursors.{pos_advanced, advanced_zero, advanced_more}
use Rattle.core_read.proofs.Runs.{got, short}
use Rattle.std.specs.Prelude.{Err, Ok}

module _ (order : ByteOrder) (w : ℕ) (s : List ℕ) where
  -- one number, where its bytes are there
  pub number_here : (c : Cursor) → c.pos + w ≤ length s
      → ◌≡◌ {A = Taken ℕ} (number_taken order w s (Ok c)) (record { value = number_at order w s c.pos; then = Ok (advanced c w) })
  number_here c h = sym (got order w s (Ok c) c refl (number_at order w s c.pos) refl (advanced c w) refl h)

  number_short : (c : Cursor) → length s < c.pos + w
      → ◌≡◌ {A = Taken ℕ} (number_taken order w s (Ok c)) (record { value = 0; then = Err (UnexpectedEof c.pos w) })
  number_short c h = sym (short order w s (Ok c) c refl h)

  -- all n numbers are there
  pub numbers_here : (n : ℕ) (c : Cursor) → c.pos + w * n ≤ length s
      → ◌≡◌ {A = Taken (List ℕ)} (numbers_taken order w n s (Ok c)) (record { value = numbers_at order w n s c.pos; then = Ok (advanced c (w * n)) })
  unfolding numbers_taken numbers_at
  numbers_here zero c h = rw (mul-zero, advanced_zero)
  numbers_here (suc n) c h =
      let m : w * suc n ≡ w + w * n = omega (arith, mul-suc w n) in
      let k : (advanced c w).pos + w * n ≤ length s = rw pos_advanced (omega (arith, m)) in
      rw (number_here c (omega (arith, m)), numbers_here n (advanced c w) k, advanced_more, pos_advanced, m)

  -- a refused run stays so
  pub numbers_stay : (n : ℕ) (why : Refusal) → (numbers_taken order w n s (Err why)).then ≡ Err why
  unfolding numbers_taken number_taken
  numbers_stay zero why = refl
  numbers_stay (suc n) why = numbers_stay n why

  -- only k of them are there: the next one is refused
  pub numbers_short : (k n : ℕ) (c : Cursor) → k < n → c.pos + w * k ≤ length s → length s < c.pos + w * k + w
      → (numbers_taken order w n s (Ok c)).then ≡ Err (UnexpectedEof (c.pos + w * k) w)
  unfolding numbers_taken
  numbers_short k zero c l h g = absurd (omega arith)
  numbers_short zero (suc n) c l h g =
      let e : c.pos ≡ c.pos + w * 0 = omega (arith, mul-zero w) in
      rw (numbers_taken, number_short c (omega (arith, mul-zero w)), ← e) (numbers_stay n (UnexpectedEof c.pos w))
  numbers_short (suc k) (suc n) c l h g =
      let m : w * suc k ≡ w + w * k = omega (arith, mul-suc w k) in
      let a : (advanced c w).pos + w * k ≡ c.pos + w * suc k = rw pos_advanced (omega (arith, m)) in
      rw (numbers_taken, number_here c (omega (arith, m)), ← a) (numbers_short k n (advanced c w) (omega arith) (omega (arith, a)) (omega (arith, a)))

  -- none is there
  numbers_beyond : (n : ℕ) (c : Cursor) → 0 < n → length s < c.pos + w → (numbers_taken order w n s (Ok c)).then ≡ Err (UnexpectedEof c.pos w)
  unfolding numbers_taken
  numbers_beyond zero c l g = absurd (omega arith)
  numbers_beyond (suc n) c l g = rw (numbers_taken, number_short c g) (numbers_stay n (UnexpectedEof c.pos w))

-- ---- how many whole numbers of w bytes there are from a place to the end of the bytes, as the code counts them

module _ (at l w : ℕ) (z : 0 < w) (h : at < l) where
  pub fits : (n : ℕ) → n ≤ (l - at) / w → at + w * n ≤ l
  fits n e =
      let m : n * w ≤ l - at = (le-div_iff_mul-le z).0 e in
      omega (arith, m, mul_comm w n)

  pub whole_fits : at + w * ((l - at) / w) ≤ l
  whole_fits = omega (arith, mul-div-le (l - at) w)

  pub whole_lacks : l < at + w * ((l - at) / w) + w
  whole_lacks =
      let m : l - at < (l - at) / w * w + w = lt-div-mul-add z in
      omega (arith, m, mul_comm w ((l - at) / w))

-- ---- where a run stands after n numbers, as the code finds it

module _ (order : ByteOrder) (w n : ℕ) (s : List ℕ) (p : Place) where
  pub measured : (c d : Cursor) → p ≡ Ok c → d ≡ advanced c (w * n) → c.pos + w * n ≤ length s → Ok d ≡ (numbers_taken order w n s p).then
  measured c d here e h = rw (here, numbers_here order w s n c h, e)

  pub measured_none : (c : Cursor) → p ≡ Ok c → n ≡ 0 → Ok c ≡ (numbers_taken order w n s p).then
  unfolding numbers_taken
  measured_none c here z = rw (here, z)

  pub measured_short : (c : Cursor) (k a : ℕ) → p ≡ Ok c → k < n → a ≡ c.pos + w * k → a ≤ length s → length s < a + w
      → Err (UnexpectedEof a w) ≡ (numbers_taken order w n s p).then
  measured_short c k a here l e h g =
      rw (here, e) (sym (numbers_short order w s k n c l (omega (arith, e)) (omega (arith, e))))

  pub measured_beyond : (c : Cursor) (a : ℕ) → p ≡ Ok c → 0 < n → a ≡ c.pos → length s < a + w
      → Err (UnexpectedEof a w) ≡ (numbers_taken order w n s p).then
  measured_beyond c a here l e g = rw (here, e) (sym (numbers_beyond order w s n c l (omega (arith, e))))

  pub measured_stays : (why : Refusal) → p ≡ Err why → Err why ≡ (numbers_taken order w n s p).then
  measured_stays why here = rw (here, numbers_stay order w s n why)

-- ---- the numbers at the front of a list, and one more

pub length_numbers : (order : ByteOrder) (w n : ℕ) (s : List ℕ) (at : ℕ) → length (numbers_at order w n s at) ≡ n
unfolding numbers_at
length_numbers order w zero s at = refl
length_numbers order w (suc n) s at = ap suc (length_numbers order w n s (at + w))

pub numbers_suc : (order : ByteOrder) (w n : ℕ) (s : List ℕ) (at : ℕ)
    → numbers_at order w (suc n) s at ≡ numbers_at order w n s at ++ (number_at order w s (at + w * n) ∷ [])
unfolding numbers_at
numbers_suc order w zero s at = ap (λ (k : ℕ). number_at order w s k ∷ []) (omega (arith, mul-zero w))
numbers_suc order w (suc n) s at =
    let e : at + w + w * n ≡ at + w * suc n = omega (arith, mul-suc w n) in
    ap (λ (l : List ℕ). number_at order w s at ∷ l) (rw (← e) (numbers_suc order w n s (at + w)))

fill_step : (order : ByteOrder) (w i : ℕ) (s : List ℕ) (at v : ℕ) (out₀ : List ℕ) → i < length out₀ → v ≡ number_at order w s (at + w * i)
    → set (numbers_at order w i s at ++ drop i out₀) i v ≡ numbers_at order w (i + 1) s at ++ drop (i + 1) out₀
fill_step order w i s at v out₀ h e =
    rw (e, drop-cons out₀ i 0 h, add-one, numbers_suc, append_assoc)
    (set_at (numbers_at order w i s at) (get_or out₀ i 0) (drop (suc i) out₀) (number_at order w s (at + w * i)) i (length_numbers order w i s at))

-- after i turns: i of the n numbers stand at the front
pub record Filled (order : ByteOrder) (w : ℕ) (s : List ℕ) (at n : ℕ) (out₀ out : List ℕ) (i : ℕ) : Type 0 where
  pub within : i ≤ n
  pub long : length out ≡ length out₀
  pub front : out ≡ numbers_at order w i s at ++ drop i out₀

pub filled_none : (order : ByteOrder) (w : ℕ) (s : List ℕ) (at n : ℕ) (out : List ℕ) → Filled order w s at n out out 0
unfolding numbers_at
filled_none order w s at n out = record { within = omega arith; long = refl; front = refl }

module _ (order : ByteOrder) (w : ℕ) (s : List ℕ) (at n : ℕ) (out₀ out : List ℕ) (i : ℕ) (f : Filled order w s at n out₀ out i) where
  pub filled_more : (v : ℕ) → i < n → n ≤ length out₀ → v ≡ number_at order w s (at + w * i) → Filled order w s at n out₀ (set out i v) (i + 1)
  filled_more v h k e = record {
    within = omega arith;
    long = length-set out i v ∙ f.long;
    front = rw f.front (fill_step order w i s at v out₀ (omega arith) e);
  }

  pub filled_all : n ≤ i → out ≡ numbers_at order w n s at ++ drop n out₀
  filled_all h =
      let e : i ≡ n = omega (arith, f.within) in
      rw (← e) f.front
