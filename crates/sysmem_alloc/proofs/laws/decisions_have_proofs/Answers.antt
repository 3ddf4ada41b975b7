-- See Certified.antt.
use Rattle.sysmem_alloc.proofs.Certified.{decisions_have_proofs as lemma}
use Rattle.sysmem_alloc.proofs.laws.decisions_have_proofs.Goals as goal

pub returns : goal.returns
returns c = lemma c.legal_is_sound.ensures c.base_is_given.ensures c.optimal_has_proof.ensures
