use Rattle.certificate_text.proofs.PathsBack.{path_back}
use Rattle.certificate_text.proofs.laws.paths_read_back.Goals as goal

pub returns : goal.returns
returns c = path_back
