use Rattle.std.proofs.Common.{Err, refl, ap, ◌∙◌}
use Rattle.std.proofs.lemmas.Result.{err_from_is_err_and}
use Rattle.flat_records.proofs.Scanning.{base_stop, base_on}
use Rattle.flat_records.proofs.bounds.words_checked.Goals as goal

pub returns-in_err-all_below : goal.returns-in_err-all_below
returns-in_err-all_below c =
    let (y, p, q) = err_from_is_err_and c.from_residual.result c.from_residual.ensures.1 in
    p ∙ ap Err q ∙ base_stop _ _ _ c.all_below.ensures _ c.in_err-all_below.was

pub returns-in-Pan1 : goal.returns-in-Pan1
returns-in-Pan1 c = base_on _ _ _ c.all_below.ensures _ _ _ c.in-Pan1.is c.in_ok-all_below.was refl

pub returns-in-Pic1 : goal.returns-in-Pic1
returns-in-Pic1 c = base_on _ _ _ c.all_below.ensures _ _ _ c.in-Pic1.is c.in_ok-all_below.was c.all_below-in-Pic1.ensures

pub returns-in-Txt1 : goal.returns-in-Txt1
returns-in-Txt1 c = base_on _ _ _ c.all_below.ensures _ _ _ c.in-Txt1.is c.in_ok-all_below.was c.all_below-in-Txt1.ensures

pub returns-in-Wnd1 : goal.returns-in-Wnd1
returns-in-Wnd1 c = base_on _ _ _ c.all_below.ensures _ _ _ c.in-Wnd1.is c.in_ok-all_below.was c.all_below-in-Wnd1.ensures

pub returns-in-Ali1 : goal.returns-in-Ali1
returns-in-Ali1 c = base_on _ _ _ c.all_below.ensures _ _ _ c.in-Ali1.is c.in_ok-all_below.was c.all_below-in-Ali1.ensures
