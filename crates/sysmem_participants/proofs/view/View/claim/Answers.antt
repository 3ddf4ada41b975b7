use Rattle.sysmem_participants.proofs.view.View.claim.Goals as goal

pub returns-clause-right : goal.returns-clause-right
returns-clause-right c = c.claim.ensures.right
