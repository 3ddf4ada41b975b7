-- See forests/Apart.antt.
use Rattle.sysmem_tree.proofs.forests.Apart.{own_paths as lemma}
use Rattle.sysmem_tree.proofs.laws.paths_in_shapes_differ.Goals as goal

pub returns : goal.returns
returns c = lemma
