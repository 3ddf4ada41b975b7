-- See Confluent.antt.
use Rattle.sysmem_alloc.proofs.Confluent.{confluent}
use Rattle.sysmem_alloc.proofs.laws.confluence.Goals as goal

pub returns : goal.returns
returns c = confluent c.sound_stays.ensures c.ready_stays.ensures c.forest_stays.ensures c.one_forest.ensures c.maps_of_logs.ensures c.confluence.ensures c.one_answer.ensures
