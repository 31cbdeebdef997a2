use Rattle.strip_write.proofs.WriteKinds.{alone, pan1_alone, pic1_alone, txt1_alone, wnd1_alone, ali1_alone}
use Rattle.core_checks.proofs.Checked.{write_numbered}
use Rattle.strip_write.proofs.write.write_section.Goals as goal

pub returns-in-Pan1 : goal.returns-in-Pan1
returns-in-Pan1 c = let asked = write_numbered (alone _ _ _ _ _ (pan1_alone _ _ _ c.args.r _ _ _ _ _ c.in-Pan1.is) (c.write_pan1.ensures.value, c.write_pan1.ensures.out_after)) in record { value = asked.0; out_after = asked.1.0; result_value = asked.1.1 }

pub returns-in-Pic1 : goal.returns-in-Pic1
returns-in-Pic1 c = let asked = write_numbered (alone _ _ _ _ _ (pic1_alone _ _ _ c.args.r _ _ _ _ _ c.in-Pic1.is) (c.write_pic1.ensures.value, c.write_pic1.ensures.out_after)) in record { value = asked.0; out_after = asked.1.0; result_value = asked.1.1 }

pub returns-in-Txt1 : goal.returns-in-Txt1
returns-in-Txt1 c = let asked = write_numbered (alone _ _ _ _ _ (txt1_alone _ _ _ c.args.r _ _ _ _ _ c.in-Txt1.is) (c.write_txt1.ensures.value, c.write_txt1.ensures.out_after)) in record { value = asked.0; out_after = asked.1.0; result_value = asked.1.1 }

pub returns-in-Wnd1 : goal.returns-in-Wnd1
returns-in-Wnd1 c = let asked = write_numbered (alone _ _ _ _ _ (wnd1_alone _ _ _ c.args.r _ _ _ _ _ c.in-Wnd1.is) (c.write_wnd1.ensures.value, c.write_wnd1.ensures.out_after)) in record { value = asked.0; out_after = asked.1.0; result_value = asked.1.1 }

pub returns-in-Ali1 : goal.returns-in-Ali1
returns-in-Ali1 c = let asked = write_numbered (alone _ _ _ _ _ (ali1_alone _ _ _ c.args.r _ _ _ _ _ c.in-Ali1.is) (c.write_ali1.ensures.value, c.write_ali1.ensures.out_after)) in record { value = asked.0; out_after = asked.1.0; result_value = asked.1.1 }
