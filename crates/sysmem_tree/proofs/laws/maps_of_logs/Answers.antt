-- See histories/Entries.antt.
use Rattle.sysmem_tree.proofs.histories.Entries.{maps_of_logs as lemma}
use Rattle.sysmem_tree.proofs.laws.maps_of_logs.Goals as goal

pub returns : goal.returns
returns c = lemma
