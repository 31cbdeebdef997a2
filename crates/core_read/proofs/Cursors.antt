-- The moves of a cursor. What moves it are `advanced` and `moved` alone; every other law goes by these.
use mathlib.Core.Path.{◌≡◌, refl, sym, ap, ◌∙◌}
use Prim.Native.Nat.{ℕ, zero, suc, ◌+◌, ◌≤◌, ◌<◌, max}
use native.Mathlib.Nat.{add-zero, zero-add, add_assoc}
use native.Mathlib.Omega.{arith}
use borrow.Author.Tests.{ne_eqb}
use Rattle.core_read.specs.Taken.{start, advanced, moved}
use Rattle.core_read.specs.declared.cursor.Cursor.{Cursor}

pub pos_start : (place : ℕ) → (start place).pos ≡ place
unfolding start
pos_start place = refl

-- nothing read
pub advanced_zero : (c : Cursor) → advanced c 0 ≡ c
unfolding advanced
advanced_zero c = refl

-- something read
pub advanced_some : (c : Cursor) (w : ℕ) → 0 < w → advanced c w ≡ record { pos = c.pos + w; reach = max c.reach (c.pos + w) }
unfolding advanced
advanced_some c w h = rw (ne_eqb w 0 (λ e. omega arith))

pub pos_advanced : (c : Cursor) (w : ℕ) → (advanced c w).pos ≡ c.pos + w
pos_advanced c zero = ap (λ d. d.pos) (advanced_zero c) ∙ sym (add-zero c.pos)
pos_advanced c (suc w) = ap (λ d. d.pos) (advanced_some c (suc w) (omega arith))

pub pos_moved : (c : Cursor) (to : ℕ) → (moved c to).pos ≡ to
unfolding moved
pos_moved c to = refl

-- bytes read after others
pub advanced_more : (c : Cursor) (a b : ℕ) → advanced (advanced c a) b ≡ advanced c (a + b)
advanced_more c zero b = rw (advanced_zero, zero-add)
advanced_more c (suc a) zero = rw (advanced_zero, add-zero)
advanced_more c (suc a) (suc b) =
    let m : max (max c.reach (c.pos + suc a)) (c.pos + suc a + suc b) ≡ max c.reach (c.pos + (suc a + suc b)) = omega arith in
    rw (
      advanced_some (advanced c (suc a)) (suc b) (omega arith),
      advanced_some c (suc a) (omega arith),
      advanced_some c (suc a + suc b) (omega arith),
      m,
      add_assoc,
    )

-- set to where it stands
pub moved_here : (c : Cursor) → moved c c.pos ≡ c
unfolding moved
moved_here c = refl

-- ---- the reach

pub reach_start : (place : ℕ) → (start place).reach ≡ place
unfolding start
reach_start place = refl

-- a run that begins at a place and reads on has looked as far as it stands
pub start_advanced : (place w : ℕ) → advanced (start place) w ≡ start (place + w)
unfolding start
start_advanced place zero = advanced_zero (start place) ∙ ap start (sym (add-zero place))
start_advanced place (suc w) =
    let m : max place (place + suc w) ≡ place + suc w = omega arith in
    advanced_some (start place) (suc w) (omega arith) ∙ rw m

pub reach_moved : (c : Cursor) (to : ℕ) → (moved c to).reach ≡ c.reach
unfolding moved
reach_moved c to = refl

pub reach_grows : (c : Cursor) (w : ℕ) → c.reach ≤ (advanced c w).reach
reach_grows c zero = rw advanced_zero (omega arith)
reach_grows c (suc w) = rw (advanced_some c (suc w) (omega arith)) (omega arith)

pub reach_covers : (c : Cursor) (w : ℕ) → 0 < w → c.pos + w ≤ (advanced c w).reach
reach_covers c w h = rw (advanced_some c w h) (omega arith)

pub reach_within : (c : Cursor) (w n : ℕ) → c.reach ≤ n → c.pos + w ≤ n → (advanced c w).reach ≤ n
reach_within c zero n g h = rw advanced_zero g
reach_within c (suc w) n g h = rw (advanced_some c (suc w) (omega arith)) (omega arith)

-- of a run that has looked as far as it stands
pub reach_level : (c : Cursor) → c.reach ≡ c.pos → (w : ℕ) → (advanced c w).reach ≡ c.pos + w
reach_level c e zero = rw advanced_zero (omega (arith, e))
reach_level c e (suc w) = rw (advanced_some c (suc w) (omega arith)) (omega (arith, e))

-- ---- as the code finds it

module _ (c : Cursor) (w : ℕ) where
  pub advanced_none : w ≡ 0 → c ≡ advanced c w
  advanced_none e = rw (e, advanced_zero)

  pub advanced_to : (w ≡ 0 → ⊥) → (reach : ℕ) → reach ≡ max c.reach (c.pos + w) → record { pos = c.pos + w; reach = reach } ≡ advanced c w
  unfolding advanced
  advanced_to h reach e = rw (ne_eqb w 0 h, e)
