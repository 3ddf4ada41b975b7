use Rattle.sysmem_image.proofs.Pixels.{effective_keeps, effective_admits}
use Rattle.sysmem_image.proofs.laws.effective_bounds.Goals as goal

pub returns-clause-keeps : goal.returns-clause-keeps
returns-clause-keeps c = effective_keeps

pub returns-clause-admits : goal.returns-clause-admits
returns-clause-admits c = effective_admits
