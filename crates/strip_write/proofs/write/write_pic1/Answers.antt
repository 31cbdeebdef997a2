use mathlib.Core.List.{[]}
use Rattle.picture.proofs.Cleared.{body_short}
use Rattle.strip_records.specs.Whole.{whole, pic1}
use Rattle.strip_write.proofs.WriteKinds.{pic1_run, pic1_good, place_small, fits, end_made, written}
use borrow.Author.Rules.{rules}
use native.Mathlib.Omega.{arith}
use Rattle.strip_write.proofs.write.write_pic1.Goals as goal

pub body_length-n-requires : goal.body_length-n-requires
body_length-n-requires c =
    let own = c.args.own in
    let e = pic1_run _ _ _ _ c.in_ok-base_checked.ensures own _ (c.in_ok-picture_checked.ensures _) in
    pic1_good _ _ _ own _ e

pub end_checked-requires : goal.end_checked-requires
end_checked-requires c =
    let own = c.args.own in
    let e = pic1_run _ _ _ _ c.in_ok-base_checked.ensures own _ (c.in_ok-picture_checked.ensures _) in
    let good = pic1_good _ _ _ own _ e in
    (omega (arith, c.body_length-n.ensures, body_short own _ good), place_small (whole (pic1 _ own) _ [] [] [] []) _ _ e)

pub put_pic1-requires : goal.put_pic1-requires
put_pic1-requires c =
    let own = c.args.own in
    let e = pic1_run _ _ _ _ c.in_ok-base_checked.ensures own _ (c.in_ok-picture_checked.ensures _) in
    let n = c.body_length-n.ensures in
    let good = pic1_good _ _ _ own _ e in
    let (sound, room) = fits (whole (pic1 _ own) _ [] [] [] []) _ _ e _ n c.in_ok-end_checked.ensures in
    record { length = (n, omega (arith, n, body_short own _ good)); good = (sound, good); room = omega (arith, room) }

pub returns : goal.returns
returns c =
    let own = c.args.own in
    let e = pic1_run _ _ _ _ c.in_ok-base_checked.ensures own _ (c.in_ok-picture_checked.ensures _) in
    let n = c.body_length-n.ensures in
    let asked = written (whole (pic1 _ own) _ [] [] [] []) _ _ (end_made (whole (pic1 _ own) _ [] [] [] []) _ _ e _ n c.in_ok-end_checked.ensures) n c.put_pic1.ensures in
    let out = asked.1 in
    let same = c.put_pic1.ensures.same in
    record { value = asked.0; out_after = search rules }
