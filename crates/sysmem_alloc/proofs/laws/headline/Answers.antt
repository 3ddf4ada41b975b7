-- See Negotiated.antt.
use Rattle.sysmem_alloc.proofs.Negotiated.{headline as lemma}
use Rattle.sysmem_alloc.proofs.laws.headline.Goals as goal

pub returns : goal.returns
returns c = lemma c.legal_is_sound.ensures c.legal_agrees.ensures c.forest_stays.ensures c.ready_stays.ensures c.one_forest.ensures c.base_is_given.ensures c.decisions_have_proofs.ensures c.tests_are_exact.ensures c.one_answer.ensures c.confluence.ensures
