use Rattle.certificate_text.proofs.Ordinals.{path_steps}
use Rattle.certificate_text.proofs.laws.node_paths_can_be_read.Goals as goal

pub returns : goal.returns
returns c = path_steps
