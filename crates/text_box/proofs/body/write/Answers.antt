use Rattle.pane.proofs.Cleared.{sound}
use Rattle.text_box.proofs.Calls.{write_cleared, measured}
use Rattle.text_box.proofs.body.write.Goals as goal

pub put_body-requires : goal.put_body-requires
put_body-requires c =
    let a = write_cleared _ _ _ _ _ _ _ _ c.in_ok-write_checked.ensures in
    let m = measured _ _ _ _ _ _ _ c.typed_text_box.ensures.long a.ready in
    (sound _ a.ready.base, m.0, m.1, m.2, a.fits)
