use Rattle.sysmem_merge.proofs.Reasons.{reason_of_some, reason_of_all}
use Rattle.sysmem_merge.proofs.laws.reason_leaves_none.Goals as goal

pub returns-clause-these : goal.returns-clause-these
returns-clause-these c = reason_of_all

pub returns-clause-more : goal.returns-clause-more
returns-clause-more c = reason_of_some
