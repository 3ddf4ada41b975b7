use Rattle.record_reading.proofs.Refusals.{steady-colour}
use Rattle.record_reading.proofs.reading.pair.colours_of.Goals as goal

pub list_in-requires : goal.list_in-requires
list_in-requires c = steady-colour
