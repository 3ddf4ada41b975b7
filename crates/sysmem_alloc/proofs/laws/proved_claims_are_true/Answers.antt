-- See TrueClaims.antt.
use Rattle.sysmem_alloc.proofs.TrueClaims.{proved_claims_are_true as lemma}
use Rattle.sysmem_alloc.proofs.laws.proved_claims_are_true.Goals as goal

pub returns : goal.returns
returns c = lemma
