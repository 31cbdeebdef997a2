use mathlib.Core.List.{[]}
use mathlib.Core.Path.{refl}
use Rattle.strip_records.specs.Whole.{whole, pan1}
use Rattle.strip_write.proofs.WriteKinds.{pan1_run, place_small, fits, end_made, written}
use borrow.Author.Rules.{rules}
use native.Mathlib.Omega.{arith}
use Rattle.strip_write.proofs.write.write_pan1.Goals as goal

pub end_checked-requires : goal.end_checked-requires
end_checked-requires c =
    let e = pan1_run _ _ _ _ c.in_ok-base_checked.ensures in
    (omega arith, place_small (whole (pan1 _) [] [] [] [] []) _ _ e)

pub put_pan1-requires : goal.put_pan1-requires
put_pan1-requires c =
    let e = pan1_run _ _ _ _ c.in_ok-base_checked.ensures in
    let (sound, room) = fits (whole (pan1 _) [] [] [] [] []) _ _ e 76 refl c.in_ok-end_checked.ensures in
    (sound, omega (arith, room))

pub returns : goal.returns
returns c =
    let e = pan1_run _ _ _ _ c.in_ok-base_checked.ensures in
    let asked = written (whole (pan1 _) [] [] [] [] []) 76 _ (end_made (whole (pan1 _) [] [] [] [] []) _ _ e 76 refl c.in_ok-end_checked.ensures) refl c.put_pan1.ensures in
    let out = asked.1 in
    let same = c.put_pan1.ensures.same in
    record { value = asked.0; out_after = search rules }
