use Rattle.record_reading.proofs.Refusals.{steady-pair}
use Rattle.record_reading.proofs.reading.pair.pairs_of.Goals as goal

pub list_in-requires : goal.list_in-requires
list_in-requires c = steady-pair
