use Rattle.flat.proofs.Storing.{stored_run}
use Rattle.flat.proofs.words.store.Goals as goal

pub returns : goal.returns
returns c = stored_run _ _ _ c.requires c.copy_from_slice.ensures.after
