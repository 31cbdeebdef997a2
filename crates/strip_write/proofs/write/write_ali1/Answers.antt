use mathlib.Core.List.{[]}
use mathlib.Core.Path.{refl}
use Rattle.strip_records.specs.Whole.{whole, ali1}
use Rattle.strip_write.proofs.WriteKinds.{ali1_run, place_small, fits, end_made, written}
use borrow.Author.Rules.{rules}
use native.Mathlib.Omega.{arith}
use Rattle.strip_write.proofs.write.write_ali1.Goals as goal

pub end_checked-requires : goal.end_checked-requires
end_checked-requires c =
    let own = c.args.own in
    let e = ali1_run _ _ _ _ own c.in_ok-base_checked.ensures in
    (omega arith, place_small (whole (ali1 _ own) [] [] [] [] []) _ _ e)

pub put_ali1-requires : goal.put_ali1-requires
put_ali1-requires c =
    let own = c.args.own in
    let e = ali1_run _ _ _ _ own c.in_ok-base_checked.ensures in
    let (sound, room) = fits (whole (ali1 _ own) [] [] [] [] []) _ _ e 88 refl c.in_ok-end_checked.ensures in
    (sound, omega (arith, room))

pub returns : goal.returns
returns c =
    let own = c.args.own in
    let e = ali1_run _ _ _ _ own c.in_ok-base_checked.ensures in
    let asked = written (whole (ali1 _ own) [] [] [] [] []) 88 _ (end_made (whole (ali1 _ own) [] [] [] [] []) _ _ e 88 refl c.in_ok-end_checked.ensures) refl c.put_ali1.ensures in
    let out = asked.1 in
    let same = c.put_ali1.ensures.same in
    record { value = asked.0; out_after = search rules }
