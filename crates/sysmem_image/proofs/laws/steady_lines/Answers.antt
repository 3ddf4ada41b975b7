use Rattle.sysmem_image.proofs.Steps.{steady_line}
use Rattle.sysmem_image.proofs.laws.steady_lines.Goals as goal

pub returns : goal.returns
returns c = steady_line
