use Rattle.flat_records.specs.Records.{own_words, record_words}
use Rattle.flat.proofs.Chain.{stores_own}
use Rattle.flat_records.proofs.records.WindowPaneOwn.put.Goals as goal

pub returns : goal.returns
unfolding record_words own_words
returns c = stores_own c.put_front.ensures.0 c.put_front.ensures.1 c.put_window.ensures
