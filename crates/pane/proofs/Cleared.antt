-- What the checks of a write tell, and what lets a pane that was read pass.
use mathlib.Core.Path.{◌≡◌}
use Prim.Native.Nat.{ℕ, ◌+◌, ◌^◌, ◌≤◌, ◌<◌}
use native.Mathlib.Omega.{arith}
use mathlib.Core.Bool.{true, false, not, ◌||◌}
use mathlib.Core.List.{List}
use lib.ListN.{take}
use lib.Dec.{ltb}
use borrow.Author.Tests.{ltb-false, not-false}
use Rattle.core_read.specs.Taken.{has_zero, Place}
use Rattle.core_checks.specs.Checks.{body_start}
use Rattle.core_read.specs.declared.cursor.Cursor.{Cursor}
use Rattle.core_read.proofs.Runs.{cleared}
use Rattle.core_checks.proofs.Checked.{BodyOk, body_started, end_cleared, or_false}
use Rattle.utf8.specs.Utf8.{well_formed}
use Rattle.pane_read.specs.Pane.{Sound}
use Rattle.pane_checks.specs.Checks.{name_ill, name_bad, names_checked, reserve_checked}
use Rattle.pane.specs.Body.{pane_write_checked}
use Rattle.pane_read.specs.declared.Pane.{Pane}
use Rattle.std.specs.Prelude.{Ok}

-- what check 9 leaves of a name
pub record GoodName (w : ℕ) (bytes : List ℕ) (count : ℕ) : Type 0 where
  pub few : count ≤ w
  pub text : has_zero (take count bytes) ≡ false
  pub formed : well_formed (take count bytes) ≡ true

good_name : (w : ℕ) (bytes : List ℕ) (count : ℕ) → name_bad w bytes count ≡ false → GoodName w bytes count
unfolding name_bad name_ill
good_name w bytes count e =
    let h = or_false (ltb w count || has_zero (take count bytes)) (not (well_formed (take count bytes))) e in
    let k = or_false (ltb w count) (has_zero (take count bytes)) h.0 in
    record { few = ltb-false _ _ k.0; text = k.1; formed = not-false _ h.1 }

-- what checks 9 and 10 leave of a pane
pub record Good (b : Pane) : Type 0 where
  pub name : GoodName 24 b.pane_name.bytes b.pane_name.count
  pub user : GoodName 8 b.user_name.bytes b.user_name.count
  pub reserve : b.flag_ex.reserve0 ≤ 31

-- in the table's order: the names, what a kind may check between, reserve0
pub names_cleared : (p : Place) (b : Pane) (c : Cursor) → names_checked p b ≡ Ok c
    → (p ≡ Ok c) × GoodName 24 b.pane_name.bytes b.pane_name.count × GoodName 8 b.user_name.bytes b.user_name.count
unfolding names_checked
names_cleared p b c e =
    let h = cleared _ _ _ c e in
    let k = cleared p _ _ c h.0 in
    (k.0, good_name _ _ _ k.1, good_name _ _ _ h.1)

pub reserve_cleared : (p : Place) (b : Pane) (c : Cursor) → reserve_checked p b ≡ Ok c → (p ≡ Ok c) × (b.flag_ex.reserve0 ≤ 31)
unfolding reserve_checked
reserve_cleared p b c e = let h = cleared p _ _ c e in (h.0, ltb-false _ _ h.1)

pub base_cleared : (p : Place) (b : Pane) (c : Cursor) → reserve_checked (names_checked p b) b ≡ Ok c → (p ≡ Ok c) × Good b
base_cleared p b c e =
    let (h, r) = reserve_cleared _ b c e in
    let (k, n, u) = names_cleared p b c h in
    (k, record { name = n; user = u; reserve = r })

pub sound : (b : Pane) → Good b → Sound b
sound b g = record { name = g.name.few; user = g.user.few }

-- what lets a body write through
pub record Accepts (b : Pane) (n body : ℕ) : Type 0 where
  pub place : BodyOk n body
  pub good : Good b
  pub fits : body + 76 ≤ n

pub write_cleared : (b : Pane) (n body : ℕ) (c : Cursor) → pane_write_checked b n body ≡ Ok c → Accepts b n body
unfolding pane_write_checked
write_cleared b n body c e =
    let (h, f) = end_cleared _ _ n c e in
    let (k, g) = base_cleared _ b c h in
    let (s, o) = body_started n body c k in
    record { place = o; good = g; fits = f }

-- the end of a write is no large number
pub end_small : (p q r : Place) (n body w : ℕ) (b : Pane) → p ≡ body_start n body → q ≡ names_checked p b → r ≡ reserve_checked q b → w < 2 ^ 32
    → (c : Cursor) → r ≡ Ok c → body + w < 2 ^ 64
end_small p q r n body w b e f g h c k =
    let (l, m) = base_cleared p b c (rw (g, f) at k) in
    let (s, o) = body_started n body c (rw e at l) in
    omega (arith, o.most, o.within)
