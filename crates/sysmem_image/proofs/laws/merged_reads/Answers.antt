use Rattle.sysmem_image.proofs.Readings.{merged_reads}
use Rattle.sysmem_image.proofs.laws.merged_reads.Goals as goal

pub returns : goal.returns
returns c = merged_reads
