use Rattle.record_reading.proofs.Refusals.{steady-entry}
use Rattle.record_reading.proofs.reading.entry.entries_in.Goals as goal

pub list_in-requires : goal.list_in-requires
list_in-requires c = steady-entry
