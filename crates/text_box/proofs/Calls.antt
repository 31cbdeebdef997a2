-- The body calls as the code makes them, and what lets a body write through.
use mathlib.Core.Path.{◌≡◌, refl, ap, subst}
use Prim.Native.Nat.{ℕ, ◌+◌, ◌^◌, ◌≤◌, ◌<◌}
use native.Mathlib.Omega.{arith}
use mathlib.Core.List.{List}
use Rattle.pane_checks.proofs.Cleared.{texts_cleared}
use Rattle.core_read.specs.Taken.{start, stop_if, Place}
use Rattle.core_checks.specs.Checks.{length_checked, body_checked, Extent}
use Rattle.core_read.specs.declared.error.Refusal.{Refusal}
use Rattle.core_read.specs.declared.cursor.ByteOrder.{ByteOrder}
use Rattle.core_read.specs.Taken.{Taken}
use Rattle.core_read.specs.declared.cursor.Cursor.{Cursor}
use Rattle.core_read.proofs.Runs.{cleared}
use Rattle.core_checks.proofs.Checked.{BodyOk, body_started, length_cleared, body_cleared, list_cleared, end_cleared, reach_cleared, reach_stays}
use Rattle.pane_read.specs.Pane.{pane_taken}
use Rattle.pane_checks.specs.Checks.{texts_checked, names_checked, reserve_checked}
use Rattle.pane_read.specs.declared.Pane.{Pane}
use Rattle.pane_read.proofs.Run.{pane_stays}
use Rattle.pane.proofs.Calls.{texts_stay}
use Rattle.pane.proofs.Cleared.{Good, names_cleared, reserve_cleared}
use Rattle.text_box_read.specs.declared.TextBoxPane.{TextBoxPane}
use Rattle.pane_read.specs.declared.parsed.Measured.{Measured}
use Rattle.text_box_read.specs.declared.TextBoxFound.{TextBoxFound}
use Rattle.text_box_parts.specs.Parts.{label_part, Label}
use Rattle.text_box_read.specs.TextBox.{Standing}
use Rattle.text_box_read.specs.TextBox.{text_box_taken}
use Rattle.text_box_write.specs.Written.{Small, text_box_length}
use Rattle.text_box_checks.specs.Checks.{label_checked, label_length_checked, label_name_checked, text_box_checked}
use Rattle.text_box.specs.Body.{text_box_measured, text_box_start, text_box_write_checked}
use Rattle.text_box_read.proofs.Came.{text_box_stays}
use Rattle.text_box_read.proofs.Came.{text_box_came}
use Rattle.text_box.proofs.Cleared.{GoodTextBox, label_length_cleared, label_name_cleared, text_box_early, text_box_cleared, small}
use Rattle.std.specs.Prelude.{Err, None, Ok, Some}
use Rattle.core_read.specs.declared.error.NumberList.TheVariants.{Units, Lines}

-- ---- check 7

pub label_cleared : (p : Place) (s : List ℕ) (l : Label) (c : Cursor) → label_checked p s l ≡ Ok c → p ≡ Ok c
unfolding label_checked
label_cleared p s None c e = e
label_cleared p s (Some span) c e = (cleared p _ _ c e).0

pub label_stays : (why : Refusal) (s : List ℕ) (l : Label) → label_checked (Err why) s l ≡ Err why
unfolding label_checked stop_if
label_stays why s None = refl
label_stays why s (Some span) = refl

-- ---- the read

-- a run that was refused stays so
pub measured_stays : (order : ByteOrder) (s : List ℕ) (why : Refusal) (body : ℕ) (x : Extent) → (text_box_measured order s (Err why) body x).then ≡ Err why
unfolding text_box_measured
measured_stays order s why body x =
    rw (
      pane_stays order s why,
      text_box_stays order s why body,
      texts_stay why (pane_taken order s (Err why)).value body,
      label_stays why s (text_box_taken order s (Err why) body).value.text_box.label,
      reach_stays why x,
    )

-- where nothing was refused the lists may be filled
pub measured_ready : (order : ByteOrder) (s : List ℕ) (p : Place) (body : ℕ) (x : Extent) (m : Measured TextBoxFound) (c : Cursor)
    → text_box_measured order s p body x ≡ record { value = m; then = Ok c } → Standing s m.own
unfolding text_box_measured
measured_ready order s p body x m c e =
    let b = pane_taken order s p in
    let t = text_box_taken order s b.then body in
    let q = texts_checked t.then b.value body in
    let k = reach_cleared (label_checked q s t.value.text_box.label) x c (ap (λ (z : Taken (Measured TextBoxFound)). z.then) e) in
    let l = texts_cleared t.then b.value body c (label_cleared q s t.value.text_box.label c k) in
    subst (λ (z : Taken (Measured TextBoxFound)). Standing s z.value.own) e (text_box_came order s b.then body c l)

-- ---- 1, 2 and 3

pub started : (n nu nl body : ℕ) (c : Cursor) → text_box_start n nu nl body ≡ Ok c → (8 ≤ body) × (body < 2 ^ 32) × (32767 ≤ nu) × (510 ≤ nl)
unfolding text_box_start
started n nu nl body c k =
    let (a, l) = list_cleared _ Lines 510 nl c k in
    let (b, u) = list_cleared _ Units 32767 nu c a in
    let (d, o) = body_started n body c b in
    (o.least, omega (arith, o.most, o.within), u, l)

-- ---- the write

-- what the checks before 16 leave
pub record Ready (b : Pane) (x : TextBoxPane) (units lines label : List ℕ) (n body : ℕ) : Type 0 where
  pub place : BodyOk n body
  pub base : Good b
  pub own : GoodTextBox x units lines label

pub ready : (b : Pane) (x : TextBoxPane) (units lines label : List ℕ) (n body : ℕ) (c : Cursor)
    → text_box_checked (reserve_checked (label_name_checked (names_checked (body_checked (label_length_checked (length_checked (Ok (start body)) n) (label_part x.label label)) n body) b) (label_part x.label label)) b) x units lines ≡ Ok c
    → Ready b x units lines label n body
ready b x units lines label n body c e =
    let name = label_part x.label label in
    let (p₅, r) = reserve_cleared _ b c (text_box_early _ x units lines c e) in
    let (p₄, k) = label_name_cleared _ name c p₅ in
    let (p₃, nn, nu) = names_cleared _ b c p₄ in
    let (p₂, l, w) = body_cleared _ n body c p₃ in
    let (p₁, f) = label_length_cleared _ name c p₂ in
    let (p₀, m) = length_cleared _ n c p₁ in
    record {
      place = record { most = m; least = l; within = w };
      base = record { name = nn; user = nu; reserve = r };
      own = (text_box_cleared _ x units lines label c e f k).1;
    }

-- the same of checks that the code made one after another
pub ready_let : (b : Pane) (x : TextBoxPane) (units lines label : List ℕ) (n body : ℕ)
    → ((c : Cursor) → length_checked (Ok c) n ≡ Ok c) → ((c : Cursor) → label_length_checked (Ok c) (label_part x.label label) ≡ Ok c)
    → ((c : Cursor) → body_checked (Ok c) n body ≡ Ok c) → ((c : Cursor) → names_checked (Ok c) b ≡ Ok c)
    → ((c : Cursor) → label_name_checked (Ok c) (label_part x.label label) ≡ Ok c) → ((c : Cursor) → reserve_checked (Ok c) b ≡ Ok c)
    → ((c : Cursor) → text_box_checked (Ok c) x units lines ≡ Ok c) → Ready b x units lines label n body
ready_let b x units lines label n body h₁ h₂ h₃ h₄ h₅ h₆ h₇ =
    let c = start body in
    ready b x units lines label n body c (rw (h₁ c, h₂ c, h₃ c, h₄ c, h₅ c, h₆ c) (h₇ c))

-- a body that passed 1 and 2 is at no large place
pub place_small : (n body : ℕ) → ((c : Cursor) → length_checked (Ok c) n ≡ Ok c) → ((c : Cursor) → body_checked (Ok c) n body ≡ Ok c) → body ≤ 16777216
place_small n body h₁ h₂ =
    let c = start body in
    let (_, most) = length_cleared _ n c (h₁ c) in
    let (_, _, within) = body_cleared _ n body c (h₂ c) in
    omega (arith, most, within)

-- what lets a body write through
pub record Accepts (b : Pane) (x : TextBoxPane) (units lines label : List ℕ) (n body : ℕ) : Type 0 where
  pub ready : Ready b x units lines label n body
  pub fits : body + (76 + text_box_length body x units lines label) ≤ n

pub write_cleared : (b : Pane) (x : TextBoxPane) (units lines label : List ℕ) (n body : ℕ) (c : Cursor)
    → text_box_write_checked b x units lines label n body ≡ Ok c → Accepts b x units lines label n body
unfolding text_box_write_checked
write_cleared b x units lines label n body c e =
    let (h, f) = end_cleared _ _ n c e in
    record { ready = ready b x units lines label n body c h; fits = f }

-- what 16 asks of the length
pub measured : (b : Pane) (x : TextBoxPane) (units lines label : List ℕ) (n body : ℕ) → x.text_length < 256 ^ 2 → Ready b x units lines label n body
    → (8 ≤ body) × (body < 2 ^ 32) × Small x units lines label
measured b x units lines label n body h r =
    (r.place.least, omega (arith, r.place.most, r.place.within), small x units lines label h r.own)
