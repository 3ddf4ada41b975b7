use Rattle.std.proofs.Common.{arith}
use Rattle.sysmem_image.proofs.CallerLemmas.{in_range_by}
use Rattle.sysmem_merge.proofs.sound.numbers.Goals as goal

pub returns : goal.returns
returns c =
    in_range_by c.args.bounds (record { width = omega arith; height = omega arith }) (record { width = omega arith; height = omega arith }) (record { width = omega arith; height = omega arith })
    (omega arith) (omega arith) (omega arith) (omega arith)
    (record { width = omega arith; height = omega arith }) (record { width = omega arith; height = omega arith }) (record { width = omega arith; height = omega arith }) (omega arith)
