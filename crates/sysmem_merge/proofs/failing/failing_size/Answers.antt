use Rattle.std.proofs.Common.{arith}
use Rattle.std.proofs.lemmas.Grind.{common_steps}
use Rattle.sysmem_merge.proofs.Uncovered.{first_least, first_most}
use Rattle.sysmem_merge.proofs.failing.failing_size.Goals as goal

pub returns-then-size_bytes-memory-clause-first : goal.returns-then-size_bytes-memory-clause-first
returns-then-size_bytes-memory-clause-first c heap s p size memory =
    first_least heap s p (rw (size, memory) (grind (arith, common_steps)))

pub returns-then-size_bytes-memory-2-clause-first : goal.returns-then-size_bytes-memory-2-clause-first
returns-then-size_bytes-memory-2-clause-first c heap s p size memory =
    first_most heap s p (rw (size, memory) (grind (arith, common_steps))) (rw (size, memory) (grind (arith, common_steps)))
