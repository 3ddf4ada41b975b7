-- See Stepping.antt.
use Rattle.sysmem_alloc.proofs.Stepping.{sound_replay}
use Rattle.sysmem_alloc.proofs.laws.legal_is_sound.Goals as goal

pub returns : goal.returns
returns c = sound_replay c.sound_stays.ensures c.ready_stays.ensures c.one_forest.ensures c.maps_of_logs.ensures
