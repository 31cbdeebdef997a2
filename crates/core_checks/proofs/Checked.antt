-- What passed checks tell, and what lets a check pass.
use mathlib.Core.Path.{◌≡◌, refl, ap}
use Prim.Native.Nat.{ℕ, ◌+◌, ◌*◌, ◌%◌, ◌≤◌}
use mathlib.Core.List.{List}
use native.Mathlib.Omega.{arith}
use mathlib.Core.Bool.{Bool, true, false, ◌||◌}
use lib.Dec.{ltb}
use borrow.Author.Tests.{ltb-false, le-ltb}
use Rattle.core_read.specs.Taken.{start, stop_if, Place}
use Rattle.core_checks.specs.Checks.{length_checked, body_checked, section_checked, body_start, section_start, list_checked, count_bad, count_checked, end_checked, reach_checked, unless_refused, written_of, written_by_number, Extent, Written}
use Rattle.core_read.specs.Bytes.{splice, Put}
use Rattle.core_read.specs.declared.error.NumberList.{NumberList}
use Rattle.core_read.specs.declared.error.Refusal.{Refusal}
use Rattle.core_read.specs.declared.error.Refusal.TheVariants.{PastSection}
use Rattle.core_read.specs.declared.cursor.Cursor.{Cursor}
use Rattle.core_read.proofs.Runs.{cleared, passed}
use Rattle.std.specs.Prelude.{Err, None, Ok, Some}

pub or_false : (a b : Bool) → (a || b) ≡ false → (a ≡ false) × (b ≡ false)
or_false true b e = (e, cc)
or_false false b e = (refl, e)

-- ---- passed

pub length_cleared : (p : Place) (n : ℕ) (c : Cursor) → length_checked p n ≡ Ok c → (p ≡ Ok c) × (n ≤ 16777216)
unfolding length_checked
length_cleared p n c e = let h = cleared p _ _ c e in (h.0, ltb-false _ _ h.1)

pub body_cleared : (p : Place) (n b : ℕ) (c : Cursor) → body_checked p n b ≡ Ok c → (p ≡ Ok c) × (8 ≤ b) × (b ≤ n)
unfolding body_checked
body_cleared p n b c e =
    let h = cleared _ _ _ c e in
    let k = cleared p _ _ c h.0 in
    (k.0, ltb-false _ _ k.1, ltb-false _ _ h.1)

pub section_cleared : (p : Place) (n place : ℕ) (c : Cursor) → section_checked p n place ≡ Ok c → (p ≡ Ok c) × (place ≤ n) × (place % 4 ≡ 0)
unfolding section_checked
section_cleared p n place c e =
    let h = cleared _ _ _ c e in
    let k = cleared p _ _ c h.0 in
    let z : place % 4 ≤ 0 = ltb-false _ _ h.1 in
    (k.0, ltb-false _ _ k.1, omega arith)

pub list_cleared : (p : Place) (list : NumberList) (need n : ℕ) (c : Cursor) → list_checked p list need n ≡ Ok c → (p ≡ Ok c) × (need ≤ n)
unfolding list_checked
list_cleared p list need n c e = let h = cleared p _ _ c e in (h.0, ltb-false _ _ h.1)

pub count_cleared : (p : Place) (list : NumberList) (w n : ℕ) (c : Cursor) → count_checked p list w n ≡ Ok c → (p ≡ Ok c) × (n % w ≡ 0) × (n ≤ 255 * w)
unfolding count_checked count_bad
count_cleared p list w n c e =
    let h = cleared p _ _ c e in
    let k = or_false _ _ h.1 in
    let z : n % w ≤ 0 = ltb-false _ _ k.0 in
    (h.0, omega (arith, z), ltb-false _ _ k.1)

pub end_cleared : (p : Place) (end n : ℕ) (c : Cursor) → end_checked p end n ≡ Ok c → (p ≡ Ok c) × (end ≤ n)
unfolding end_checked
end_cleared p end n c e = let h = cleared p _ _ c e in (h.0, ltb-false _ _ h.1)

-- 19: in any extent the run stood there before; in a section it kept to it
pub reach_cleared : (p : Place) (x : Extent) (c : Cursor) → reach_checked p x ≡ Ok c → p ≡ Ok c
unfolding reach_checked
reach_cleared p None c e = e
reach_cleared (Ok d) (Some end) c e = (cleared (Ok d) _ _ c e).0
reach_cleared (Err why) (Some end) c e = e

pub reach_kept : (p : Place) (end : ℕ) (c : Cursor) → reach_checked p (Some end) ≡ Ok c → c.reach ≤ end
unfolding reach_checked
reach_kept (Ok d) end c e =
    let h = cleared (Ok d) (ltb end d.reach) (PastSection d.reach end) c e in
    let k : d ≡ c = cc h.0 in
    rw (← k) (ltb-false end d.reach h.1)
reach_kept (Err why) end c e = let z : ◌≡◌ {A = ℕ} 0 1 = cc in absurd (omega arith)

pub reach_stays : (why : Refusal) (x : Extent) → reach_checked (Err why) x ≡ Err why
unfolding reach_checked
reach_stays why None = refl
reach_stays why (Some end) = refl

-- what checks 1 and 2 tell of a buffer of n bytes
pub record BodyOk (n b : ℕ) : Type 0 where
  pub most : n ≤ 16777216
  pub least : 8 ≤ b
  pub within : b ≤ n

pub record SectionOk (n place : ℕ) : Type 0 where
  pub most : n ≤ 16777216
  pub within : place ≤ n
  pub whole : place % 4 ≡ 0

at_start : (b : ℕ) (c : Cursor) → ◌≡◌ {A = Place} (Ok (start b)) (Ok c) → c ≡ start b
at_start b c e = cc

pub body_started : (n b : ℕ) (c : Cursor) → body_start n b ≡ Ok c → (c ≡ start b) × BodyOk n b
unfolding body_start
body_started n b c e =
    let (h, l, w) = body_cleared _ n b c e in
    let (k, m) = length_cleared _ n c h in
    (at_start b c k, record { most = m; least = l; within = w })

pub section_started : (n place : ℕ) (c : Cursor) → section_start n place ≡ Ok c → (c ≡ start place) × SectionOk n place
unfolding section_start
section_started n place c e =
    let (h, w, z) = section_cleared _ n place c e in
    let (k, m) = length_cleared _ n c h in
    (at_start place c k, record { most = m; within = w; whole = z })

-- ---- let through

pub body_passes : (n b : ℕ) → BodyOk n b → body_start n b ≡ Ok (start b)
unfolding body_start body_checked length_checked stop_if
body_passes n b h = rw (le-ltb 16777216 n h.most, le-ltb b 8 h.least, le-ltb n b h.within)

pub section_passes : (n place : ℕ) → SectionOk n place → section_start n place ≡ Ok (start place)
unfolding section_start section_checked length_checked stop_if
section_passes n place h = rw (le-ltb 16777216 n h.most, le-ltb n place h.within, h.whole)

pub list_passes : (c : Cursor) (list : NumberList) (need n : ℕ) → need ≤ n → list_checked (Ok c) list need n ≡ Ok c
unfolding list_checked
list_passes c list need n h = passed c _ _ (le-ltb n need h)

pub end_passes : (c : Cursor) (end n : ℕ) → end ≤ n → end_checked (Ok c) end n ≡ Ok c
unfolding end_checked
end_passes c end n h = passed c _ _ (le-ltb n end h)

-- of any run, refused or not
pub list_enough : (p : Place) (list : NumberList) (need n : ℕ) → need ≤ n → list_checked p list need n ≡ p
unfolding list_checked stop_if
list_enough (Ok c) list need n h = rw (le-ltb n need h)
list_enough (Err why) list need n h = refl

pub reach_passes : (c : Cursor) (end : ℕ) → c.reach ≤ end → reach_checked (Ok c) (Some end) ≡ Ok c
unfolding reach_checked
reach_passes c end h = passed c _ _ (le-ltb end c.reach h)

-- ---- what a write answers, and the output after it

-- whatever a refusal would have kept
pub wrote : {o o' e : List ℕ} {at w r : ℕ} {c : Cursor} (p : Place) (kept : List ℕ) → p ≡ Ok c → Put o at w e r o'
    → (Ok r ≡ written_of p (at + w)) × (o' ≡ unless_refused p kept (splice o at e))
unfolding written_of unless_refused
wrote p kept h k = rw (h, k.place, k.bytes) (refl, refl)

-- ---- what is known by the case is known by its number

pub write_numbered : {B : Type 0} {r w : Written} → (r ≡ w) × B → (r ≡ w) × (B × (written_by_number r ≡ written_by_number w))
write_numbered h = (h.0, (h.1, ap written_by_number h.0))
