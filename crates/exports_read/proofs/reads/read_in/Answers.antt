use Rattle.std.proofs.Common.{refl, sym, ◌∙◌}
use native.Mathlib.Omega.{arith}
use Rattle.strip_records.specs.Whole.{lists}
use Rattle.strip_read.specs.Read.{answered_with, read_body}
use Rattle.strip_records.proofs.Held.{filled_as, filled_none}
use Rattle.strip_read.proofs.Cleared.{read_started}
use Rattle.strip_read.proofs.Steps.{body_given, answer_given, read_none, read_body_at, read_needs}
use Rattle.exports_read.proofs.Reading.{alone}
use Rattle.exports_read.proofs.reads.read_in.Goals as goal

pub body_at-requires : goal.body_at-requires
body_at-requires c = λ d h. let (a, f) = read_started _ _ (lists _ _ _ _) _ (sym c.read_start-checked.ensures ∙ h) in (a.within, a.most)

pub overflow_add-place : goal.overflow_add-place
overflow_add-place c = omega (arith, (read_needs _ _ _ (lists _ _ _ _) _ c.read_start-checked.ensures _ (body_given c.body_at.ensures c.in-Ok.is)).0)

pub read_kind-requires : goal.read_kind-requires
read_kind-requires c =
    let x = read_needs _ _ _ (lists _ _ _ _) _ c.read_start-checked.ensures _ (body_given c.body_at.ensures c.in-Ok.is) in
    (omega arith, omega (arith, x.0), x.1)

pub returns-in-Ok-clause-lists_after : goal.returns-in-Ok-clause-lists_after
returns-in-Ok-clause-lists_after c =
    let x = read_body_at _ _ _ (lists _ _ _ _) _ c.read_start-checked.ensures _ (body_given c.body_at.ensures c.in-Ok.is) _ _ refl c.read_kind.ensures.lists_after.filled in
    filled_as c.read_kind.ensures.lists_after x.1

pub returns-in-Ok-clause-delivered : goal.returns-in-Ok-clause-delivered
unfolding read_body
returns-in-Ok-clause-delivered c =
    let x = read_body_at _ _ _ (lists _ _ _ _) _ c.read_start-checked.ensures _ (body_given c.body_at.ensures c.in-Ok.is) _ _ refl c.read_kind.ensures.lists_after.filled in
    rw (← x.0) c.read_kind.ensures.delivered

pub returns-in-Err-clause-lists_after : goal.returns-in-Err-clause-lists_after
returns-in-Err-clause-lists_after c =
    filled_none (read_none _ _ _ (lists _ _ _ _) _ c.read_start-checked.ensures _ (answer_given c.body_at.ensures c.in-Err.is)).1

pub returns-in-Err-clause-delivered : goal.returns-in-Err-clause-delivered
unfolding answered_with
returns-in-Err-clause-delivered c =
    let h = answer_given c.body_at.ensures c.in-Err.is in
    let x = read_none _ _ _ (lists _ _ _ _) _ c.read_start-checked.ensures _ h in
    rw (← x.0) (alone _ _ _ _ _ h _ _)
