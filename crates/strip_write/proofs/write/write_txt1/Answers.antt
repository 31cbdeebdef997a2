use mathlib.Core.List.{[]}
use Rattle.strip_records.specs.Whole.{whole, txt1}
use Rattle.strip_write.proofs.WriteKinds.{txt1_run, txt1_good, text_length, place_small, fits, end_made, written}
use borrow.Author.Rules.{rules}
use native.Mathlib.Omega.{arith}
use Rattle.strip_write.proofs.write.write_txt1.Goals as goal

pub overflow_add-body : goal.overflow_add-body
overflow_add-body c =
    let own = c.args.own in
    let label = c.args.label.now in
    let e = txt1_run _ _ _ _ own _ _ label c.in_ok-labelled_checked.ensures (c.in_ok-text_box_checked.ensures _) in
    let low = place_small (whole (txt1 _ own) [] _ _ [] label) _ _ e in
    omega (arith, low)

pub text_box_length-n-requires : goal.text_box_length-n-requires
text_box_length-n-requires c =
    let own = c.args.own in
    let label = c.args.label.now in
    let e = txt1_run _ _ _ _ own _ _ label c.in_ok-labelled_checked.ensures (c.in_ok-text_box_checked.ensures _) in
    let low = place_small (whole (txt1 _ own) [] _ _ [] label) _ _ e in
    let good = txt1_good _ _ _ own _ _ label e c.typed_text_box.ensures.long in
    (omega arith, omega (arith, low), good)

pub end_checked-requires : goal.end_checked-requires
end_checked-requires c =
    let own = c.args.own in
    let label = c.args.label.now in
    let e = txt1_run _ _ _ _ own _ _ label c.in_ok-labelled_checked.ensures (c.in_ok-text_box_checked.ensures _) in
    (omega (arith, c.text_box_length-n.ensures.1), place_small (whole (txt1 _ own) [] _ _ [] label) _ _ e)

pub put_txt1-requires : goal.put_txt1-requires
put_txt1-requires c =
    let own = c.args.own in
    let label = c.args.label.now in
    let e = txt1_run _ _ _ _ own _ _ label c.in_ok-labelled_checked.ensures (c.in_ok-text_box_checked.ensures _) in
    let n = text_length _ _ _ _ _ _ c.text_box_length-n.ensures.0 in
    let low = place_small (whole (txt1 _ own) [] _ _ [] label) _ _ e in
    let good = txt1_good _ _ _ own _ _ label e c.typed_text_box.ensures.long in
    let (sound, room) = fits (whole (txt1 _ own) [] _ _ [] label) _ _ e _ n c.in_ok-end_checked.ensures in
    record { length = (n, omega (arith, c.text_box_length-n.ensures.1)); good = (sound, good, omega (arith, low)); room = omega (arith, room) }

pub returns : goal.returns
returns c =
    let own = c.args.own in
    let label = c.args.label.now in
    let e = txt1_run _ _ _ _ own _ _ label c.in_ok-labelled_checked.ensures (c.in_ok-text_box_checked.ensures _) in
    let n = text_length _ _ _ _ _ _ c.text_box_length-n.ensures.0 in
    let asked = written (whole (txt1 _ own) [] _ _ [] label) _ _ (end_made (whole (txt1 _ own) [] _ _ [] label) _ _ e _ n c.in_ok-end_checked.ensures) n c.put_txt1.ensures in
    let out = asked.1 in
    let same = c.put_txt1.ensures.same in
    record { value = asked.0; out_after = search rules }
