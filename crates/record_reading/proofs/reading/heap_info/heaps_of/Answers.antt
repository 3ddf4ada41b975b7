use Rattle.record_reading.proofs.Refusals.{steady-heap}
use Rattle.record_reading.proofs.reading.heap_info.heaps_of.Goals as goal

pub list_in-requires : goal.list_in-requires
list_in-requires c = steady-heap
