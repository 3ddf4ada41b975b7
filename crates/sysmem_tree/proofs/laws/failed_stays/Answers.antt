-- See domains/Failing.antt.
use Rattle.sysmem_tree.proofs.domains.Failing.{failed_stays as lemma}
use Rattle.sysmem_tree.proofs.laws.failed_stays.Goals as goal

pub returns : goal.returns
returns c = lemma
