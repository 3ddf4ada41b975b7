use Rattle.record_reading.proofs.Refusals.{steady-permitted}
use Rattle.record_reading.proofs.reading.heap.permitted_of.Goals as goal

pub list_in-requires : goal.list_in-requires
list_in-requires c = steady-permitted
