use Rattle.certificate_text.proofs.ClaimsFit.{true_claims}
use Rattle.certificate_text.proofs.laws.true_claims_can_be_read.Goals as goal

pub returns : goal.returns
returns c = true_claims c.choices_leave_one_forest.ensures c.few_children.ensures c.few_choices.ensures
