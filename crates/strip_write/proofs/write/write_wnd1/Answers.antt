use mathlib.Core.List.{[]}
use Rattle.strip_records.specs.Whole.{whole, wnd1}
use Rattle.strip_write.proofs.WriteKinds.{wnd1_run, wnd1_good, window_length_lem, place_small, fits, end_made, written}
use borrow.Author.Rules.{rules}
use native.Mathlib.Omega.{arith}
use Rattle.strip_write.proofs.write.write_wnd1.Goals as goal

pub overflow_add-body : goal.overflow_add-body
overflow_add-body c =
    let own = c.args.own in
    let e = wnd1_run _ _ _ _ c.in_ok-base_checked.ensures own _ _ (c.in_ok-window_checked.ensures _) in
    let low = place_small (whole (wnd1 _ own) _ [] [] _ []) _ _ e in
    omega (arith, low)

pub window_length-n-requires : goal.window_length-n-requires
window_length-n-requires c =
    let own = c.args.own in
    let e = wnd1_run _ _ _ _ c.in_ok-base_checked.ensures own _ _ (c.in_ok-window_checked.ensures _) in
    let low = place_small (whole (wnd1 _ own) _ [] [] _ []) _ _ e in
    let good = wnd1_good _ _ _ own _ _ e in
    (omega (arith, low), good.most_quads, good.most_frames)

pub end_checked-requires : goal.end_checked-requires
end_checked-requires c =
    let own = c.args.own in
    let e = wnd1_run _ _ _ _ c.in_ok-base_checked.ensures own _ _ (c.in_ok-window_checked.ensures _) in
    (omega (arith, c.window_length-n.ensures.1), place_small (whole (wnd1 _ own) _ [] [] _ []) _ _ e)

pub put_wnd1-requires : goal.put_wnd1-requires
put_wnd1-requires c =
    let own = c.args.own in
    let e = wnd1_run _ _ _ _ c.in_ok-base_checked.ensures own _ _ (c.in_ok-window_checked.ensures _) in
    let n = window_length_lem _ c.args.quads.now c.args.frames.now _ c.window_length-n.ensures.0 in
    let low = place_small (whole (wnd1 _ own) _ [] [] _ []) _ _ e in
    let good = wnd1_good _ _ _ own _ _ e in
    let (sound, room) = fits (whole (wnd1 _ own) _ [] [] _ []) _ _ e _ n c.in_ok-end_checked.ensures in
    record { length = (n, omega (arith, c.window_length-n.ensures.1)); good = (sound, good, omega (arith, low)); room = omega (arith, room) }

pub returns : goal.returns
returns c =
    let own = c.args.own in
    let e = wnd1_run _ _ _ _ c.in_ok-base_checked.ensures own _ _ (c.in_ok-window_checked.ensures _) in
    let n = window_length_lem _ c.args.quads.now c.args.frames.now _ c.window_length-n.ensures.0 in
    let asked = written (whole (wnd1 _ own) _ [] [] _ []) _ _ (end_made (whole (wnd1 _ own) _ [] [] _ []) _ _ e _ n c.in_ok-end_checked.ensures) n c.put_wnd1.ensures in
    let out = asked.1 in
    let same = c.put_wnd1.ensures.same in
    record { value = asked.0; out_after = search rules }
