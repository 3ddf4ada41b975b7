use Rattle.sysmem_image.proofs.Exact.{looser_admits}
use Rattle.sysmem_image.proofs.laws.looser_admits.Goals as goal

pub returns : goal.returns
returns c = looser_admits
