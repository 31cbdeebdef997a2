use native.Mathlib.Omega.{arith}
use Rattle.text_box.proofs.Calls.{ready_let, place_small, measured}
use Rattle.text_box.proofs.body.write_checked.Goals as goal

pub text_box_length-own-requires : goal.text_box_length-own-requires
text_box_length-own-requires c =
    measured _ _ _ _ _ _ _ c.typed_text_box.ensures.long
    (ready_let _ _ _ _ _ _ _ c.in_ok-length_checked.ensures c.in_ok-label_length_checked.ensures c.in_ok-body_checked.ensures c.in_ok-names_checked.ensures c.in_ok-label_name_checked.ensures c.in_ok-reserve_checked.ensures c.in_ok-text_box_checked.ensures)

pub end_checked-requires : goal.end_checked-requires
end_checked-requires c = omega (arith, place_small _ _ c.in_ok-length_checked.ensures c.in_ok-body_checked.ensures, c.text_box_length-own.ensures.1)
