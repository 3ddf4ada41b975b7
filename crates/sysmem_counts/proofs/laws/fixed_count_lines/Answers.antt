use Rattle.sysmem_counts.proofs.Counts.{fixed_line_of_some, unsuited_line}
use Rattle.sysmem_counts.proofs.laws.fixed_count_lines.Goals as goal

pub returns-clause-holds : goal.returns-clause-holds
returns-clause-holds c = fixed_line_of_some

pub returns-clause-some : goal.returns-clause-some
returns-clause-some c = unsuited_line
