-- See Confluent.antt.
use Rattle.sysmem_alloc.proofs.Confluent.{initial_shape as lemma}
use Rattle.sysmem_alloc.proofs.laws.initial_shape.Goals as goal

pub returns : goal.returns
returns c = lemma c.sound_stays.ensures c.ready_stays.ensures c.forest_stays.ensures c.one_forest.ensures c.maps_of_logs.ensures c.initial_shape.ensures
